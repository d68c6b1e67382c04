-- The rows so far are those of the symbols so far.
use Rattle.std.proofs.Common.{◌≡◌, map, take}
use Rattle.type_layout.specs.NamedTypes.{types_of}
use Rattle.type_layout.specs.Descriptions.{symbols_of}
use Rattle.symbol_table.specs.Tables.{table_symbol}
use Rattle.symbol_table.specs.Rows.{symbols_of_rows}
use Rattle.symbol_table.proofs.row.rows_of.Given as goal

abbrev pub invariant-loop-symbol : goal.invariant-loop-symbol
invariant-loop-symbol l =
    symbols_of_rows l.rows.items ≡ map (table_symbol (types_of l.types)) (symbols_of (take l.symbol-index l.symbols))
