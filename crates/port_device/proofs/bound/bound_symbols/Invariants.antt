use Rattle.std.proofs.Common.{take}
use Rattle.symbol_table.specs.Rows.{symbols_of_rows}
use Rattle.port_device.specs.BoundTables.{IsBoundTable}
use Rattle.port_device.proofs.bound.bound_symbols.Given as goal

-- the symbols before this one are bound
abbrev pub invariant-loop-number : goal.invariant-loop-number
invariant-loop-number l = IsBoundTable l.bound.items (symbols_of_rows (take l.number l.rows))
