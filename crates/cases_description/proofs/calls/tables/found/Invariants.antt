-- The steps are counted in the ledger of the blank.
use Rattle.cases_description.proofs.calls.tables.found.Given as goal

abbrev pub ghosts-found_counted : goal.ghosts-found_counted
ghosts-found_counted a = record { name = a.blank.name; parts = a.blank.parts }
