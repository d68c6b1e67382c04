use Rattle.std.proofs.Common.{◌≡◌, List, ◌++◌, drop}
use Rattle.std.specs.List.{All}
use Rattle.spec_plant.specs.Listed.{NamedType}
use Rattle.symbol_table.specs.Moves.{IsKeptPlace}
use Rattle.symbol_table.specs.Rows.{symbols_of_rows}
use Rattle.port_device.specs.KeptSymbols.{kept_symbols_of}
use Rattle.port_device.specs.Moved.{entries_from}
use Rattle.port_device.specs.Reloaded.{AreCompared, IsTypedRow}
use Rattle.port_device.proofs.moving.put_entries.Given as goal

-- the entries so far and those of the rows that are left are the entries of all rows
abbrev pub invariant-loop-number : goal.invariant-loop-number
invariant-loop-number l = record {
  fit : All IsKeptPlace l.kept;
  left : (before : List NamedType) → AreCompared before l.now.types l.same → All (IsTypedRow before) l.rows
      → kept_symbols_of l.kept ++ entries_from before l.now l.ams_port l.number (symbols_of_rows (drop l.number l.rows))
      ≡ kept_symbols_of l.initial.kept ++ entries_from before l.now l.ams_port 0 (symbols_of_rows l.rows);
}
