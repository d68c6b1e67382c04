use Rattle.std.proofs.Common.{◌≡◌, drop}
use Rattle.std.specs.List.{list_all}
use Rattle.symbol_table.specs.Rows.{symbols_of_rows}
use Rattle.port_device.specs.Changed.{is_writable_number}
use Rattle.port_device.proofs.writable.may_write_all.Given as goal

-- the numbers that are left decide
abbrev pub invariant-loop-number : goal.invariant-loop-number
invariant-loop-number l =
    list_all (is_writable_number l.source.bytes (symbols_of_rows l.rows)) (drop l.number-index l.numbers)
    ≡ list_all (is_writable_number l.source.bytes (symbols_of_rows l.rows)) l.numbers
