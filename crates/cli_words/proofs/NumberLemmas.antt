-- The number that a decimal text says.
use Rattle.std.proofs.Common.{◌≡◌, ◌≢◌, ℕ, ◌<◌, ◌≤◌, ◌^◌, List, Option, Some, None, ◌&&◌, cond, leb, refl, ap, ◌∙◌, arith, bytes_eq}
use Rattle.std.specs.Fmt.{decimal}
use Rattle.std.specs.Str.Parse.{digits_value}
use Rattle.std.proofs.lemmas.Fmt.{decimal_is_IsNumeral}
use Rattle.std.proofs.lemmas.Slice.Eq.{bytes_eq-Decides}
use Rattle.std.proofs.lemmas.Bool.{and_parts, leb-true}
use Rattle.std.proofs.lemmas.Option.{cond_some}
use Rattle.cli_words.specs.Values.{number_of}

pub number_of-decimal : (least most n : ℕ) (text : List ℕ) → n < 2 ^ 64 → text ≡ decimal n
    → number_of least most text ≡ cond (leb least n && leb n most) (Some n) None
unfolding number_of
number_of-decimal least most n text small e =
    let value = (decimal_is_IsNumeral n small).1 in
    let same = (bytes_eq-Decides (decimal n) (decimal n)).1 refl in
    rw (e, value, same) refl

-- what a number says
pub record IsNumber (least most n : ℕ) (text : List ℕ) : Type 0 where
  pub text_is : text ≡ decimal n
  pub low : least ≤ n
  pub high : n ≤ most

pub number_of-some : (least most n : ℕ) (text : List ℕ) → number_of least most text ≡ Some n → IsNumber least most n text
unfolding number_of
number_of-some least most n text e =
    let value = digits_value 10 text in
    let chosen = cond_some (bytes_eq text (decimal value) && leb least value && leb value most) value n e in
    let high = and_parts (bytes_eq text (decimal value) && leb least value) (leb value most) chosen.0 in
    let low = and_parts (bytes_eq text (decimal value)) (leb least value) high.0 in
    record {
      text_is = (bytes_eq-Decides text (decimal value)).0 low.0 ∙ ap decimal chosen.1;
      low = omega (arith, leb-true least value low.1, chosen.1);
      high = omega (arith, leb-true value most high.1, chosen.1);
    }

none_from : (o : Option ℕ) → ((n : ℕ) → o ≡ Some n → ⊥) → o ≡ None
none_from None h = refl
none_from (Some n) h = absurd (h n refl)

pub number_of-none : (least most : ℕ) (text : List ℕ) → most < 2 ^ 64 → ((n : ℕ) → n < 2 ^ 64 → text ≢ decimal n) → number_of least most text ≡ None
number_of-none least most text small none = none_from (number_of least most text) (λ n e.
    let number = number_of-some least most n text e in
    none n (omega (arith, number.high)) number.text_is)
