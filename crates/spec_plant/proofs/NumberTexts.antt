-- A number that is written in decimal is read back, and its text has digits and a minus sign alone.
use Rattle.std.proofs.Common.{◌≡◌, ℕ, zero, suc, ◌+◌, ◌-◌, ◌*◌, ◌/◌, ◌%◌, ◌^◌, ◌<◌, ◌≤◌, Bool, true, false}
use Rattle.std.proofs.Common.{List, [], ◌∷◌, ◌++◌, length, refl, ◌∙◌, arith, inl, inr}
use Rattle.std.specs.Prelude.{Some, ◌==◌, not, ℤ, pos, negsuc}
use Rattle.std.specs.List.{list_all}
use Rattle.std.specs.Char.{is_ascii_digit}
use Rattle.std.specs.Fmt.{decimal, signed_decimal, digits}
use Rattle.std.proofs.lemmas.Fmt.{decimal_by_steps}
use Rattle.std.proofs.lemmas.Bool.{cases_Bool, eqb-true, lt-ltb, le-leb, ltb-true, ne_eqb}
use Rattle.std.proofs.lemmas.List.Folds.{list_all-append}
use Rattle.name_paths.specs.Number.{number_from, is_decimal, unsigned_of, negated_of, number_of}
use Rattle.spec_plant.specs.AcceptedTypes.{is_index}
use Rattle.spec_plant.proofs.TypeLemmas.{list_all-follows}

number_from-append : (a : ℕ) (ds : List ℕ) (c : ℕ) → number_from a (ds ++ c ∷ []) ≡ 10 * number_from a ds + (c - 48)
number_from-append a [] c = refl
number_from-append a (d ∷ ds) c = number_from-append (10 * a + (d - 48)) ds c

-- the first digit is not 0
abbrev begins_high : List ℕ → Bool
begins_high [] = false
begins_high (c ∷ cs) = not (c == 48)

-- what digits are
pub record IsDigits (n : ℕ) (ds : List ℕ) : Type 0 where
  pub all : list_all is_ascii_digit ds ≡ true
  pub value : number_from 0 ds ≡ n
  pub first : 0 < n → begins_high ds ≡ true
  pub some : 0 < length ds

digit-is : (d : ℕ) → d < 10 → is_ascii_digit (48 + d) ≡ true
digit-is d h = rw (le-leb 48 (48 + d) (omega arith), le-leb (48 + d) 57 (omega arith)) refl

one_digit : (n : ℕ) → n < 10 → IsDigits n ((48 + n) ∷ [])
one_digit n h = record {
  all = rw (digit-is n h) refl;
  value = omega arith;
  first = λ some. rw (ne_eqb (48 + n) 48 (λ e. omega (arith, e, some))) refl;
  some = omega arith;
}

more_digits : (n : ℕ) (ds : List ℕ) → 10 ≤ n → IsDigits (n / 10) ds → IsDigits n (ds ++ (48 + n % 10) ∷ [])
more_digits n ds h d =
    let value = d.value in
    let last : n % 10 < 10 = omega arith in
    record {
      all = list_all-append is_ascii_digit ds ((48 + n % 10) ∷ []) ∙ rw (d.all, digit-is (n % 10) last) refl;
      value = number_from-append 0 ds (48 + n % 10) ∙ omega (arith, value);
      first = λ some. begins ds (d.first (omega arith));
      some = longer ds;
    }
  where
    begins : (ds : List ℕ) → begins_high ds ≡ true → begins_high (ds ++ (48 + n % 10) ∷ []) ≡ true
    begins [] e = cc
    begins (c ∷ cs) e = e

    longer : (ds : List ℕ) → 0 < length (ds ++ (48 + n % 10) ∷ [])
    longer [] = omega arith
    longer (c ∷ cs) = omega arith

pub decimal-digits : (n : ℕ) → n < 2 ^ 64 → IsDigits n (decimal n)
decimal-digits n h = decimal_by_steps IsDigits one_digit more_digits n h

-- digits of a number above 0 are a decimal
is_decimal-high : (ds : List ℕ) → list_all is_ascii_digit ds ≡ true → begins_high ds ≡ true → is_decimal ds ≡ true
is_decimal-high [] all high = cc
is_decimal-high (c ∷ cs) all high = rw (all, high) refl

pub is_decimal-decimal : (n : ℕ) → n < 2 ^ 64 → is_decimal (decimal n) ≡ true
unfolding digits
is_decimal-decimal zero h = refl
is_decimal-decimal (suc n) h =
    let d = decimal-digits (suc n) h in
    is_decimal-high (decimal (suc n)) d.all (d.first (omega arith))

-- digits do not begin with a minus sign
number_of-digits : (ds : List ℕ) → list_all is_ascii_digit ds ≡ true → 0 < length ds → number_of ds ≡ unsigned_of ds
number_of-digits [] all some = absurd (omega arith)
number_of-digits (c ∷ cs) all some =
    elim (cases_Bool (c == 45)) [
      | inl t ↦
          let minus = eqb-true c 45 t in
          let none : false ≡ true = rw minus at all in
          cc
      | inr t ↦ rw t refl
    ]

unsigned_of-decimal : (n : ℕ) → n < 2147483648 → unsigned_of (decimal n) ≡ Some (pos n)
unsigned_of-decimal n h =
    let wide : n < 2 ^ 64 = omega arith in
    let value = (decimal-digits n wide).value in
    rw (is_decimal-decimal n wide, value, lt-ltb n 2147483648 h) refl

negated_of-decimal : (n : ℕ) → n < 2147483648 → negated_of (decimal (suc n)) ≡ Some (negsuc n)
negated_of-decimal n h =
    let wide : suc n < 2 ^ 64 = omega arith in
    let value = (decimal-digits (suc n) wide).value in
    rw (is_decimal-decimal (suc n) wide, value, le-leb 1 (suc n) (omega arith), le-leb (suc n) 2147483648 (omega arith)) refl

-- a number that an i32 holds is read back
pub number_of-signed_decimal : (z : ℤ) → is_index z ≡ true → number_of (signed_decimal z) ≡ Some z
number_of-signed_decimal (pos n) h =
    let low = ltb-true n (2 ^ 31) h in
    let wide : n < 2 ^ 64 = omega (arith, low) in
    let d = decimal-digits n wide in
    number_of-digits (decimal n) d.all d.some ∙ unsigned_of-decimal n (omega (arith, low))
number_of-signed_decimal (negsuc n) h =
    let low = ltb-true n (2 ^ 31) h in
    negated_of-decimal n (omega (arith, low))

-- a test that no digit and no minus sign passes
pub record IsStop (p : ℕ → Bool) : Type 0 where
  pub digit : (c : ℕ) → is_ascii_digit c ≡ true → not (p c) ≡ true
  pub minus : not (p 45) ≡ true

pub decimal-free : (p : ℕ → Bool) → IsStop p → (n : ℕ) → n < 2 ^ 64 → list_all (λ c. not (p c)) (decimal n) ≡ true
decimal-free p s n h = list_all-follows is_ascii_digit (λ c. not (p c)) s.digit (decimal n) (decimal-digits n h).all

pub signed_decimal-free : (p : ℕ → Bool) → IsStop p → (z : ℤ) → is_index z ≡ true → list_all (λ c. not (p c)) (signed_decimal z) ≡ true
signed_decimal-free p s (pos n) h = let low = ltb-true n (2 ^ 31) h in decimal-free p s n (omega (arith, low))
signed_decimal-free p s (negsuc n) h = let low = ltb-true n (2 ^ 31) h in rw (s.minus, decimal-free p s (suc n) (omega (arith, low))) refl
