use Rattle.std.proofs.Common.{◌≡◌, ◌≤◌, ◌+◌, ◌∙◌, length, sym, ap, arith}
use Rattle.std.specs.Prelude.{Some}
use Rattle.sample_store.proofs.PlaceLemmas.{place_behind}
use Rattle.sample_store.proofs.places.place_of.Goals as goal

pub returns-then-rows-number-clause-is : goal.returns-then-rows-number-clause-is
returns-then-rows-number-clause-is c =
    let more = c.if-rows-number.true in
    let whole : length c.args.rows.now ≡ 0 + length c.args.rows.now = omega arith in
    ap Some whole ∙ sym (place_behind 0 1 c.args.number c.args.rows.now c.requires.counted (omega (arith, more)))
