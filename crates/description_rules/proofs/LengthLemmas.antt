-- How long numbers and dimensions are as texts.
use Rattle.std.proofs.Common.{◌≡◌, ℕ, ◌+◌, ◌/◌, ◌%◌, ◌^◌, ◌≤◌, ◌<◌, List, [], ◌∷◌, ◌++◌, length, length-append, ap, ◌∙◌, arith}
use Rattle.std.specs.Prelude.{decimal, codes}
use Rattle.std.specs.Fmt.{signed_decimal}
use Rattle.std.proofs.lemmas.Fmt.{decimal_digit, decimal_step}
use Rattle.spec_plant.specs.Listed.{Bound}
use Rattle.spec_plant.specs.Spelling.{bound_text, high_of, joined_by_comma}

pub length-digit : (n : ℕ) → n < 10 → length (decimal n) ≡ 1
length-digit n h = ap length (decimal_digit n h)

pub length-digits : (n : ℕ) → 10 ≤ n → n < 2 ^ 64 → length (decimal n) ≡ length (decimal (n / 10)) + 1
length-digits n h small = ap length (decimal_step n h small) ∙ length-append (decimal (n / 10)) ((48 + n % 10) ∷ [])

pub ruleset digits = (length-digit, length-digits)

length-three_parts : (a b c : List ℕ) → length (a ++ b ++ c) ≡ length a + length b + length c
length-three_parts a b c =
    let one = length-append (a ++ b) c in
    let two = length-append a b in
    omega (arith, one, two)

pub length-bound_text : (b : Bound) → length (bound_text b) ≡ length (signed_decimal b.low) + 2 + length (signed_decimal (high_of b))
length-bound_text b = length-three_parts (signed_decimal b.low) (codes "..") (signed_decimal (high_of b))

pub length-string_text : (n : ℕ) → length (codes "STRING(" ++ decimal n ++ codes ")") ≡ 8 + length (decimal n)
length-string_text n =
    let whole : length (codes "STRING(" ++ decimal n ++ codes ")") ≡ 7 + length (decimal n) + 1 =
    length-three_parts (codes "STRING(") (decimal n) (codes ")") in
    omega (arith, whole)

pub length-array_text : (bounds elem : List ℕ) → length (codes "ARRAY [" ++ bounds ++ codes "] OF " ++ elem) ≡ 12 + length bounds + length elem
length-array_text bounds elem =
    let front : length (codes "ARRAY [" ++ bounds ++ codes "] OF ") ≡ 7 + length bounds + 5 = length-three_parts (codes "ARRAY [") bounds (codes "] OF ") in
    let whole : length (codes "ARRAY [" ++ bounds ++ codes "] OF " ++ elem) ≡ length (codes "ARRAY [" ++ bounds ++ codes "] OF ") + length elem =
    length-append (codes "ARRAY [" ++ bounds ++ codes "] OF ") elem in
    omega (arith, front, whole)

pub length-one : (a : List ℕ) → length (joined_by_comma (a ∷ [])) ≡ length a
length-one a = let one = length-append a [] in omega (arith, one)

pub length-two : (a b : List ℕ) → length (joined_by_comma (a ∷ b ∷ [])) ≡ length a + 1 + length b
length-two a b =
    let one = length-append a (44 ∷ (b ++ [])) in
    let two = length-append b [] in
    omega (arith, one, two)

pub length-three : (a b c : List ℕ) → length (joined_by_comma (a ∷ b ∷ c ∷ [])) ≡ length a + 1 + length b + 1 + length c
length-three a b c =
    let one = length-append a (44 ∷ (b ++ (44 ∷ (c ++ [])))) in
    let two = length-append b (44 ∷ (c ++ [])) in
    let three = length-append c [] in
    omega (arith, one, two, three)

pub ruleset lengths = (length-bound_text, length-one, length-two, length-three, length-string_text, length-array_text)
