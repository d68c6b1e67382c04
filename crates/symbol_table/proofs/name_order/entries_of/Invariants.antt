-- The entries so far are those of the rows so far.
use Rattle.std.proofs.Common.{◌≡◌, map, take}
use Rattle.symbol_table.specs.Rows.{symbols_of_rows}
use Rattle.symbol_table.specs.NameKeys.{key_of}
use Rattle.symbol_table.specs.NamesInOrder.{keys_from}
use Rattle.symbol_table.proofs.name_order.entries_of.Given as goal

abbrev pub invariant-loop-number : goal.invariant-loop-number
invariant-loop-number l = map key_of l.entries.items ≡ keys_from 0 (symbols_of_rows (take l.number l.rows))
