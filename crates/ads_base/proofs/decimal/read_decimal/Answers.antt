use Rattle.std.proofs.Common.{ℕ, ◌+◌, ◌≡◌, take, sym, ◌∙◌, ap, arith, get_or, subst, List}
use Rattle.std.specs.Char.{digit_value}
use Rattle.std.specs.Str.Parse.{digits_value, AllDigits}
use Rattle.std.proofs.lemmas.Int.Digits.{digits_value_more, digits_more}
use Rattle.ads_base.proofs.DecimalLemmas.{superfluous_is_no_decimal, decimal-at, decimal-front-le, decimal_of_digits}
use Rattle.std.specs.Fmt.{decimal}
use Rattle.std.proofs.lemmas.Bool.{false≢true}
use Rattle.std.proofs.lemmas.List.{take_all}
use Rattle.ads_base.specs.Decimal.{IsSuperfluous}
use Rattle.ads_base.proofs.decimal.read_decimal.Goals as goal

pub returns-then-has_superfluous_zero-clause-none : goal.returns-then-has_superfluous_zero-clause-none
returns-then-has_superfluous_zero-clause-none c =
    λ none n small e. superfluous_is_no_decimal c.args.text.now n small e (c.has_superfluous_zero.ensures.0 c.if-has_superfluous_zero.true)

pub returns-in_err-digit-clause-none : goal.returns-in_err-digit-clause-none
returns-in_err-digit-clause-none c = λ none n small e. c.in_err-digit.ensures (decimal-at c.args.text.now n c.loop-byte.byte-index small e (omega arith))

pub returns-in_err-value-clause-none : goal.returns-in_err-value-clause-none
returns-in_err-value-clause-none c = λ none n small e.
    let text = c.args.text.now in
    let i = c.loop-byte.byte-index in
    let more = digits_value_more 10 text i (omega arith) in
    let front = decimal-front-le text n (i + 1) small e in
    let digit : c.in_ok-digit.digit ≡ digit_value (get_or text i 0) = c.in_ok-digit.ensures.1 in
    c.in_err-value.ensures (omega (arith, more, front, digit, c.loop-byte.invariant.value))

pub loop-byte-preserved : goal.loop-byte-preserved
loop-byte-preserved c =
    let text = c.args.text.now in
    let i = c.loop-byte.byte-index in
    let more = digits_value_more 10 text i (omega arith) in
    let digit : c.in_ok-digit.digit ≡ digit_value (get_or text i 0) = c.in_ok-digit.ensures.1 in
    record {
      value = omega (arith, more, digit, c.loop-byte.invariant.value, c.in_ok-value.ensures.1);
      small = omega (arith, c.in_ok-value.ensures.0, c.in_ok-value.ensures.1);
      digits = digits_more 10 text i (omega arith) c.loop-byte.invariant.digits c.in_ok-digit.ensures.0;
    }

pub returns-clause-some : goal.returns-clause-some
returns-clause-some c =
    let text = c.args.text.now in
    let whole : take c.loop-byte.byte-index text ≡ text = take_all c.loop-byte.byte-index text (omega arith) in
    let P : List ℕ → Type 0 = λ t. AllDigits 10 t in
    let value_is : c.loop-byte.value ≡ digits_value 10 text = c.loop-byte.invariant.value ∙ ap (digits_value 10) whole in
    let plain : IsSuperfluous text → ⊥ = λ s. false≢true (sym c.if-has_superfluous_zero.false ∙ c.has_superfluous_zero.ensures.1 s) in (
      c.loop-byte.invariant.small,
      decimal_of_digits text (subst P whole c.loop-byte.invariant.digits) plain (omega (arith, value_is, c.loop-byte.invariant.small))
          ∙ ap decimal (sym value_is),
    )
