-- What hexadecimal digits are read as is written in lower case.
use Rattle.std.proofs.Common.{◌≡◌, ℕ, ◌+◌, ◌-◌, ◌*◌, ◌/◌, ◌%◌, ◌<◌, List, [], ◌∷◌, length, get_or, map, Bool}
use Rattle.std.proofs.Common.{true, cond, ◌&&◌, leb, eqb, ltb, Option, Some, None, Result, Ok, Err, refl, sym}
use Rattle.std.proofs.Common.{ap, ◌∙◌, subst, inl, inr, arith}
use Rattle.std.specs.Char.{to_ascii_lowercase}
use Rattle.std.proofs.lemmas.Bool.{cases_Bool, and_parts, eqb-true, agree_below_at}
use Rattle.std.proofs.lemmas.Bool.Decides.{nat_tests}
use Rattle.hex.specs.declared.error.FromHexError.{FromHexError}
use Rattle.hex.specs.Hex.{lower_digits, encode_with, encode_lower, hex_digit_value, digit_or_error, value_at, pair_value, decode_pairs, decode_of, ◌>>=◌}

bind_ok : {A B : Type 0} (r : Result A FromHexError) (f : A → Result B FromHexError) (y : B) → (r >>= f) ≡ Ok y → (x : A) × (r ≡ Ok x) × (f x ≡ Ok y)
bind_ok (Err e) f y h = absurd cc
bind_ok (Ok x) f y h = (x, refl, h)

-- the digit of a number below 16
lower_digit-is : (d : ℕ) → d < 16 → get_or lower_digits d 0 ≡ cond (ltb d 10) (48 + d) (87 + d)
lower_digit-is d small =
    let same : ℕ → Bool = λ k. eqb (get_or lower_digits k 0) (cond (ltb k 10) (48 + k) (87 + k)) in
    eqb-true (get_or lower_digits d 0) (cond (ltb d 10) (48 + d) (87 + d)) (agree_below_at same (λ k. true) 16 d refl small)

digit_value-ok : (c i v : ℕ) → value_at c i ≡ Ok v → hex_digit_value c ≡ Some v
digit_value-ok c i v e = at (hex_digit_value c) e
  where
    at : (o : Option ℕ) → digit_or_error c i o ≡ Ok v → o ≡ Some v
    at None h = absurd cc
    at (Some x) h = cc

-- a digit in either case, in lower case
digit_lower : (c v : ℕ) → hex_digit_value c ≡ Some v → (v < 16) × (cond (ltb v 10) (48 + v) (87 + v) ≡ to_ascii_lowercase c)
digit_lower c v e = elim (cases_Bool (leb 65 c && leb c 70)) [
  | inl upper ↦ (let is : c - 55 ≡ v = cc (rw upper at e) in let range = and_parts (leb 65 c) (leb c 70) upper in
      (grind (arith, nat_tests), grind (arith, nat_tests)))
  | inr upper ↦ elim (cases_Bool (leb 97 c && leb c 102)) [
    | inl lower ↦ (let is : c - 87 ≡ v = cc (rw (upper, lower) at e) in let range = and_parts (leb 97 c) (leb c 102) lower in
        (grind (arith, nat_tests), grind (arith, nat_tests)))
    | inr lower ↦ elim (cases_Bool (leb 48 c && leb c 57)) [
      | inl plain ↦ (let is : c - 48 ≡ v = cc (rw (upper, lower, plain) at e) in
          let range = and_parts (leb 48 c) (leb c 57) plain in (grind (arith, nat_tests), grind (arith, nat_tests)))
      | inr plain ↦ absurd (let none : None ≡ Some v = rw (upper, lower, plain) at e in cc)
    ]
  ]
]

digit_again : (c i v : ℕ) → value_at c i ≡ Ok v → (v < 16) × (get_or lower_digits v 0 ≡ to_ascii_lowercase c)
digit_again c i v e =
    let digit = digit_lower c v (digit_value-ok c i v e) in
    (digit.0, lower_digit-is v digit.0 ∙ digit.1)

-- a byte and the others, from what their digits are
written : (h l x a b : ℕ) (others bytes text : List ℕ) → get_or lower_digits h 0 ≡ to_ascii_lowercase a
    → l < 16 → get_or lower_digits l 0 ≡ to_ascii_lowercase b
    → ◌≡◌ {A = Result ℕ FromHexError} (Ok (h * 16 + l)) (Ok x) → ◌≡◌ {A = Result (List ℕ) FromHexError} (Ok (x ∷ others)) (Ok bytes)
    → encode_lower others ≡ map to_ascii_lowercase text → encode_lower bytes ≡ map to_ascii_lowercase (a ∷ (b ∷ text))
unfolding encode_with
written h l x a b others bytes text high small low byte all rest =
    let P : List ℕ → Type 0 = λ bs. encode_lower bs ≡ map to_ascii_lowercase (a ∷ (b ∷ text)) in
    let byte_is : h * 16 + l ≡ x = cc in
    let bytes_is : x ∷ others ≡ bytes = cc in
    let high_is : x / 16 ≡ h = omega arith in
    let low_is : x % 16 ≡ l = omega arith in
    let first = ap (λ k. get_or lower_digits k 0) high_is ∙ high in
    let second = ap (λ k. get_or lower_digits k 0) low_is ∙ low in
    subst P bytes_is (ap (λ d. d ∷ (get_or lower_digits (x % 16) 0 ∷ encode_lower others)) first
    ∙ ap (λ d. to_ascii_lowercase a ∷ (d ∷ encode_lower others)) second ∙ ap (λ ds. to_ascii_lowercase a ∷ (to_ascii_lowercase b ∷ ds)) rest)

pub encode_lower-decode_pairs : (i : ℕ) (text bytes : List ℕ) → decode_pairs i text ≡ Ok bytes → encode_lower bytes ≡ map to_ascii_lowercase text
unfolding decode_pairs encode_with
encode_lower-decode_pairs i [] bytes e = (let none : [] ≡ bytes = cc e in ap encode_lower (sym none))
encode_lower-decode_pairs i (a ∷ []) bytes e = absurd (cc e)
encode_lower-decode_pairs i (a ∷ (b ∷ text)) bytes e =
    let byte = bind_ok (pair_value a b i) _ bytes e in
    let high = bind_ok (value_at a i) _ byte.0 byte.1 in
    let low = bind_ok (value_at b (i + 1)) _ byte.0 high.2 in
    let others = bind_ok (decode_pairs (i + 2) text) _ bytes byte.2 in
    let high_again = digit_again a i high.0 high.1 in
    let low_again = digit_again b (i + 1) low.0 low.1 in
    written high.0 low.0 byte.0 a b others.0 bytes text high_again.1 low_again.0 low_again.1 low.2 others.2
    (encode_lower-decode_pairs (i + 2) text others.0 others.1)

pub encode_lower-decode_of : (text bytes : List ℕ) → decode_of text ≡ Ok bytes → encode_lower bytes ≡ map to_ascii_lowercase text
encode_lower-decode_of text bytes e = elim (cases_Bool (eqb (length text % 2) 1)) [
  | inl odd ↦ (let none = rw odd at e in absurd (cc none))
  | inr even ↦ encode_lower-decode_pairs 0 text bytes (rw even at e)
]
