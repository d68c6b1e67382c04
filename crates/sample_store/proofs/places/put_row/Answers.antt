use Rattle.std.proofs.Common.{ap, ◌∙◌}
use Rattle.sample_store.specs.Places.{place_from}
use Rattle.sample_store.proofs.PlaceLemmas.{put_none, put_some}
use Rattle.sample_store.proofs.places.put_row.Goals as goal

pub returns-in-None-clause-ok : goal.returns-in-None-clause-ok
returns-in-None-clause-ok c =
    put_none c.args.rows.now.items c.args.row.now (c.in-None.ensures.is ∙ ap (place_from 0 c.args.row.now.number) c.as_slice.ensures.value)

pub returns-in_ok-insert_at-in-Some-clause-ok : goal.returns-in_ok-insert_at-in-Some-clause-ok
returns-in_ok-insert_at-in-Some-clause-ok c =
    put_some c.args.rows.now.items c.insert_at.new.rows.items c.args.row.now c.in_ok-copy-in-Some.copy c.in-Some.at
    (c.in-Some.ensures.is ∙ ap (place_from 0 c.args.row.now.number) c.as_slice.ensures.value)
    c.in_ok-copy-in-Some.ensures c.in_ok-insert_at-in-Some.ensures.ok
