-- The places so far are those of the rows so far.
use Rattle.std.proofs.Common.{◌≡◌, take}
use Rattle.symbol_table.specs.Rows.{symbols_of_rows}
use Rattle.symbol_table.specs.PlaceKeys.{places_from}
use Rattle.symbol_table.proofs.by_place.places_of.Given as goal

abbrev pub invariant-loop-number : goal.invariant-loop-number
invariant-loop-number l = l.places.items ≡ places_from 0 (symbols_of_rows (take l.number l.rows))
