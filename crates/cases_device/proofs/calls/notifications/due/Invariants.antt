-- The steps are counted in the ledger of the blank.
use Rattle.cases_device.proofs.calls.notifications.due.Given as goal

abbrev pub ghosts-due_counted : goal.ghosts-due_counted
ghosts-due_counted a = record { name = a.blank.name; parts = a.blank.parts }
