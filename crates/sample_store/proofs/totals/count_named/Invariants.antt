use Rattle.std.proofs.Common.{◌≡◌, ◌≤◌, drop}
use Rattle.sample_store.specs.Places.{count_from}
use Rattle.sample_store.proofs.totals.count_named.Given as goal

-- the rows so far
abbrev pub invariant-loop-row : goal.invariant-loop-row
invariant-loop-row l = record {
  few : l.count ≤ l.row-index;
  rest : count_from l.count l.name (drop l.row-index l.rows) ≡ count_from 0 l.name l.rows;
}
