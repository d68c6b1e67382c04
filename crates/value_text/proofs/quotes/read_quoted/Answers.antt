use Rattle.std.proofs.Common.{ℕ, List, length, refl, sym, ap, ◌∙◌, subst, arith}
use Rattle.spec_frames.specs.Number.{AreBytes}
use Rattle.value_text.proofs.QuoteLemmas.{are_bytes-front, quoted-same}
use Rattle.value_text.proofs.quotes.read_quoted.Goals as goal

pub returns-in-None : goal.returns-in-None
returns-in-None c = λ value each sized read.
    let content = read.0 in
    let P : List ℕ → Type 0 = λ x. AreBytes x in
    (rw c.in-None.is at c.in_ok-unquoted.ensures.none) refl content (are_bytes-front content _ (subst P read.2.filled each)) read.2.no_nul read.1

pub returns-in-None-2 : goal.returns-in-None-2
returns-in-None-2 c = λ value each sized read.
    let found = rw c.in-Some.is at c.in_ok-unquoted.ensures.some in
    let same = quoted-same c.in-Some.content read.0 (sym found.0 ∙ read.1) in
    let full = (rw c.in-None-2.is at c.in_ok-value-in-Some.ensures.none) refl in
    omega (arith, read.2.room, ap length same, full)
