-- The steps are counted in the ledger of the blank.
use Rattle.port_device.proofs.port.Port.entry_by_path.Given as goal

abbrev pub ghosts-find_in : goal.ghosts-find_in
ghosts-find_in a = record { name = a.blank.name; parts = a.blank.parts }
