-- The first place is the one before which no byte passes.
use Rattle.std.proofs.Common.{◌≡◌, ◌≤◌, length, arith, sym, eq-eqb}
use Rattle.std.specs.Prelude.{◌==◌}
use Rattle.std.proofs.lemmas.List.Sums.{position_or_len_is}
use Rattle.type_layout.proofs.words.first_place.Goals as goal

pub returns-then-c-byte-clause-place : goal.returns-then-c-byte-clause-place
returns-then-c-byte-clause-place c =
    let within : c.loop-i.i ≤ length c.args.text.now = omega arith in
    let here = eq-eqb _ _ c.if-c-byte.true in
    sym (position_or_len_is (λ x. x == c.args.byte) c.args.text.now c.loop-i.i 0 within c.loop-i.invariant (λ below. here))

pub returns-clause-place : goal.returns-clause-place
returns-clause-place c =
    let end : c.loop-i.i ≡ length c.args.text.now = omega arith in
    sym (position_or_len_is (λ x. x == c.args.byte) c.args.text.now (length c.args.text.now) 0
    (omega arith) (λ k below. c.loop-i.invariant k (omega arith)) (λ below. absurd (omega arith)))
