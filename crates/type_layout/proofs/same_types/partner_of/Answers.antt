-- The first type that is the same, or none.
use Rattle.std.proofs.Common.{◌≡◌, ◌<◌, ◌≤◌, true, false, length, sym, ◌∙◌, ap, arith, inl, inr}
use Rattle.std.specs.Prelude.{Some, slice_get, nat_lt}
use Rattle.std.proofs.lemmas.Bool.{cases_Bool, ltb-true, ltb-false}
use Rattle.std.proofs.lemmas.List.{length-map}
use Rattle.std.proofs.lemmas.Option.{slice_get_within}
use Rattle.type_layout.specs.NamedTypes.{types_of, named_type_of}
use Rattle.type_layout.specs.SameShapes.{same_named}
use Rattle.type_layout.proofs.Places.{read_at}
use Rattle.type_layout.proofs.same_types.partner_of.Goals as goal

pub returns-then-is_same_named : goal.returns-then-is_same_named
returns-then-is_same_named c = record {
  other = named_type_of c.index-others-place.result;
  there = read_at named_type_of c.args.others.now c.loop-place.place c.index-others-place.result c.loop-place-test.true c.index-others-place.is;
  same = sym c.is_same_named.ensures ∙ c.if-is_same_named.true;
}

pub loop-place-preserved : goal.loop-place-preserved
loop-place-preserved c = λ k u below e.
    elim (cases_Bool (nat_lt k c.loop-place.place)) [
      | inl less ↦ c.loop-place.invariant k u (ltb-true k c.loop-place.place less) e
      | inr most ↦
          let least = ltb-false k c.loop-place.place most in
          let here : k ≡ c.loop-place.place = omega (arith, least, below) in
          let there = read_at named_type_of c.args.others.now c.loop-place.place c.index-others-place.result c.loop-place-test.true c.index-others-place.is in
          let both : Some u ≡ Some (named_type_of c.index-others-place.result) = sym e ∙ ap (slice_get (types_of c.args.others.now)) here ∙ there in
          let is_it : u ≡ named_type_of c.index-others-place.result = cc in
          ap (same_named c.args.partners.now (named_type_of c.args.named.now)) is_it ∙ sym c.is_same_named.ensures ∙ c.if-is_same_named.false
    ]

pub returns : goal.returns
returns c = λ q u e.
    let within = slice_get_within (types_of c.args.others.now) q u e in
    let count = length-map c.args.others.now named_type_of in
    let past = c.loop-place-test.false in
    c.loop-place.invariant q u (omega (arith, within, count, past)) e
