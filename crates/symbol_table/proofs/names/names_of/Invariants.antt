-- The names so far are those of the rows so far.
use Rattle.std.proofs.Common.{take}
use Rattle.symbol_table.specs.Names.{AreNamesOf}
use Rattle.symbol_table.specs.Rows.{symbols_of_rows}
use Rattle.symbol_table.proofs.names.names_of.Given as goal

abbrev pub invariant-loop-row : goal.invariant-loop-row
invariant-loop-row l = AreNamesOf (symbols_of_rows (take l.row-index l.rows)) l.names
