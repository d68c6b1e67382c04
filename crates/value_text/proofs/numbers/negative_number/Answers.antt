use Rattle.std.proofs.Common.{◌-◌, ◌*◌, sym, ◌∙◌, inl, inr, arith}
use Rattle.std.proofs.lemmas.Fmt.{decimal_injective}
use Rattle.value_text.proofs.numbers.negative_number.Goals as goal

pub returns-else-lacking-gt0-clause-none : goal.returns-else-lacking-gt0-clause-none
returns-else-lacking-gt0-clause-none c = λ none n low high e.
    let same = decimal_injective c.in_ok-lacking.lacking (2 * c.args.half - n) c.in_ok-lacking.ensures.some.0
    (omega arith) (sym c.in_ok-lacking.ensures.some.1 ∙ e) in
    elim c.else-lacking-gt0.either [ inl h ↦ omega arith | inr h ↦ omega arith ]
