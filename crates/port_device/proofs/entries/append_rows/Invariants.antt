-- The entries of the rows before this one are written.
use Rattle.std.proofs.Common.{◌≡◌, ◌++◌, take}
use Rattle.type_layout.specs.NamedTypes.{types_of}
use Rattle.port_device.specs.Manners.{manner_of}
use Rattle.port_device.specs.Rows.{rows_bytes}
use Rattle.port_device.proofs.entries.append_rows.Given as goal

abbrev pub invariant-loop-row : goal.invariant-loop-row
invariant-loop-row l = l.out ≡ l.initial.out ++ rows_bytes (manner_of l.manner) (types_of l.types) (take l.row-index l.rows)
