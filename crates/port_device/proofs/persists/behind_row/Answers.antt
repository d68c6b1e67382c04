use Rattle.std.proofs.Common.{refl}
use Rattle.port_device.specs.Behind.{behind}
use Rattle.port_device.specs.PersistentRows.{symbol_entries}
use Rattle.port_device.proofs.persists.behind_row.Goals as goal

pub returns-else-row : goal.returns-else-row
unfolding behind symbol_entries
returns-else-row c = rw c.if-row.false refl
