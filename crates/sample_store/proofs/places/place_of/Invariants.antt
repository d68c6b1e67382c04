use Rattle.std.proofs.Common.{◌≡◌, drop}
use Rattle.sample_store.specs.Places.{place_from}
use Rattle.sample_store.proofs.places.place_of.Given as goal

-- the number goes behind the rows so far
abbrev pub invariant-loop-row : goal.invariant-loop-row
invariant-loop-row l = record {
  place : l.at ≡ l.row-index;
  rest : place_from l.at l.number (drop l.row-index l.rows) ≡ place_from 0 l.number l.rows;
}
