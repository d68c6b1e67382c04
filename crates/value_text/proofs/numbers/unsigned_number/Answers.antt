use Rattle.std.proofs.Common.{sym, ◌∙◌, arith}
use Rattle.std.proofs.lemmas.Fmt.{decimal_injective}
use Rattle.value_text.proofs.numbers.unsigned_number.Goals as goal

pub returns-else-n-half-clause-none : goal.returns-else-n-half-clause-none
returns-else-n-half-clause-none c = λ none n small e.
    let same = decimal_injective c.in_ok-n.n n c.in_ok-n.ensures.some.0 (omega arith) (sym c.in_ok-n.ensures.some.1 ∙ e) in
    omega arith
