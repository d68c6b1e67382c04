use Rattle.std.proofs.Common.{◌≡◌, drop, None, option_map}
use Rattle.sample_store.specs.Views.{row_kept}
use Rattle.sample_store.specs.Places.{last_from}
use Rattle.sample_store.proofs.totals.last_named.Given as goal

-- the rows so far
abbrev pub invariant-loop-row : goal.invariant-loop-row
invariant-loop-row l = last_from (option_map (λ r. row_kept r.now) l.last) l.name (drop l.row-index l.rows) ≡ last_from None l.name l.rows
