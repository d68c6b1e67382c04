use Rattle.std.proofs.Common.{refl, ◌∙◌}
use Rattle.sample_store.specs.Views.{row_kept}
use Rattle.sample_store.proofs.TotalLemmas.{total_none, total_some}
use Rattle.sample_store.proofs.totals.total_of.Goals as goal

pub returns-in-None : goal.returns-in-None
returns-in-None c = total_none c.args.name.now c.args.rows.now c.in-None.ensures

pub returns-in_ok-bytes-in-Some : goal.returns-in_ok-bytes-in-Some
returns-in_ok-bytes-in-Some c =
    total_some c.args.name.now c.args.rows.now (row_kept c.in-Some.last.now)
    (record { count = c.count_named-count.result; time = c.in-Some.last.now.time; bytes = c.in_ok-bytes-in-Some.bytes })
    c.in-Some.ensures c.count_named-count.ensures refl (c.in_ok-bytes-in-Some.ensures ∙ c.as_slice.ensures)
