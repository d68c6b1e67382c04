use Rattle.std.proofs.Common.{◌*◌, ◌-◌, get_or, sym, ◌∙◌, arith, decimal}
use Rattle.std.proofs.lemmas.Bool.{eqb-true, eqb-false}
use Rattle.std.proofs.lemmas.List.{take_rest}
use Rattle.std.proofs.lemmas.Option.{IfSome_then}
use Rattle.value_text.proofs.NumberLemmas.{signed_text-below, signed_text-above, behind_minus, without_minus, with_minus}
use Rattle.value_text.proofs.numbers.signed_number.Goals as goal

pub returns-then-begins_with_minus-clause-some : goal.returns-then-begins_with_minus-clause-some
returns-then-begins_with_minus-clause-some c =
    let text = c.args.text.now in
    let minus = eqb-true (get_or text 0 0) 45 (sym c.begins_with_minus.ensures.minus ∙ c.if-begins_with_minus.true) in
    let rest = sym (take_rest text 1) in
    IfSome_then c.negative_number.result c.negative_number.ensures.some (λ n p. (
      p.1,
      behind_minus text (decimal (2 * c.args.half - n)) (c.begins_with_minus.ensures.length c.if-begins_with_minus.true) minus (rest ∙ p.2)
          ∙ sym (signed_text-above (2 * c.args.half) n (omega arith)),
    ))

pub returns-then-begins_with_minus-clause-none : goal.returns-then-begins_with_minus-clause-none
returns-then-begins_with_minus-clause-none c = λ none n small e.
    let text = c.args.text.now in
    let minus = eqb-true (get_or text 0 0) 45 (sym c.begins_with_minus.ensures.minus ∙ c.if-begins_with_minus.true) in
    let above = with_minus (2 * c.args.half) n text small (omega arith) minus e in
    c.negative_number.ensures.none none n (omega (arith, above.0)) small (take_rest text 1 ∙ above.1)

pub returns-else-begins_with_minus-clause-some : goal.returns-else-begins_with_minus-clause-some
returns-else-begins_with_minus-clause-some c =
    IfSome_then c.number_below.result c.number_below.ensures.some (λ n p.
    (omega arith, p.1 ∙ sym (signed_text-below (2 * c.args.half) n (omega arith))))

pub returns-else-begins_with_minus-clause-none : goal.returns-else-begins_with_minus-clause-none
returns-else-begins_with_minus-clause-none c = λ none n small e.
    let text = c.args.text.now in
    let plain = eqb-false (get_or text 0 0) 45 (sym c.begins_with_minus.ensures.minus ∙ c.if-begins_with_minus.false) in
    let below = without_minus (2 * c.args.half) n text small (omega arith) plain e in
    c.number_below.ensures.none none n (omega (arith, below.0)) below.1
