use Rattle.std.proofs.Common.{length, refl, sym, ◌∙◌, arith}
use Rattle.std.proofs.lemmas.Bool.{eqb-true, eqb-false}
use Rattle.std.proofs.lemmas.List.{take_rest}
use Rattle.value_text.proofs.QuoteLemmas.{plain_first, escaped_first, begins_some, begins_other}
use Rattle.value_text.proofs.quotes.first_byte.Goals as goal
use Rattle.value_text.proofs.quotes.first_byte.Goals.{then-text-lt3-via-then-text-lt3, then-text-lt3-via-else-text-lt3+then-text-ne36}

pub returns-then-is_empty-clause-none : goal.returns-then-is_empty-clause-none
returns-then-is_empty-clause-none c = λ none byte rest small some e.
    let empty = eqb-true (length c.args.text.now) 0 (sym c.is_empty.ensures ∙ c.if-is_empty.true) in
    omega (arith, begins_some byte rest c.args.text.now e)

pub returns-then-is_plain-clause-some : goal.returns-then-is_plain-clause-some
returns-then-is_plain-clause-some c =
    let some = eqb-false (length c.args.text.now) 0 (sym c.is_empty.ensures ∙ c.if-is_empty.false) in
    rw take_rest (plain_first c.args.text.now (omega arith) (sym c.is_plain.ensures ∙ c.if-is_plain.true))

pub returns-then-text-lt3-clause-none : goal.returns-then-text-lt3-clause-none
returns-then-text-lt3-clause-none c = λ none byte rest small some e.
    let other = begins_other byte rest c.args.text.now some e (sym c.is_plain.ensures ∙ c.if-is_plain.false) in
    elim c.then-text-lt3.branch [
      | then-text-lt3-via-then-text-lt3 w ↦ omega (arith, other.0, w.if-text-lt3.true)
      | then-text-lt3-via-else-text-lt3+then-text-ne36 w ↦ omega (arith, other.1, w.if-text-ne36.true)
    ]

pub returns-in_err-byte-clause-none : goal.returns-in_err-byte-clause-none
returns-in_err-byte-clause-none c = λ none byte rest small some e.
    let other = begins_other byte rest c.args.text.now some e (sym c.is_plain.ensures ∙ c.if-is_plain.false) in
    c.in_err-byte.ensures.none refl byte small other.2

pub returns-clause-some : goal.returns-clause-some
returns-clause-some c =
    let is = c.in_ok-byte.ensures.some in
    rw take_rest (escaped_first c.args.text.now c.in_ok-byte.byte (omega arith) c.if-text-ne36.false is.not_plain is.high_digit is.low_digit)
