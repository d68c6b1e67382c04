-- The entries so far, and those that are left.
use Rattle.std.proofs.Common.{◌≡◌, ◌+◌, drop}
use Rattle.std.specs.Prelude.{sum_by}
use Rattle.spec_plant.specs.Entries.{symbol_entry_length, upload_size}
use Rattle.symbol_table.specs.Rows.{symbol_of_row, declared_by_rows}
use Rattle.symbol_table.specs.Tables.{declared}
use Rattle.type_layout.specs.NamedTypes.{types_of}
use Rattle.port_device.proofs.counting.rows_size.Given as goal

abbrev pub invariant-loop-row : goal.invariant-loop-row
invariant-loop-row l =
    l.size + sum_by (λ r. symbol_entry_length (types_of l.types) (declared (symbol_of_row r))) (drop l.row-index l.rows)
    ≡ upload_size (types_of l.fn.types) (declared_by_rows l.fn.rows)
