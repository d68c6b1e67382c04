-- The number of a word of digits.
use Rattle.std.proofs.Common.{◌≡◌, ℕ, suc, ◌+◌, ◌-◌, ◌*◌, ◌^◌, ◌<◌, ◌≤◌, Bool, true, false, ◌&&◌, cond, ltb}
use Rattle.std.proofs.Common.{List, [], ◌∷◌, length, drop, get_or, Option, Some, None, refl, sym, ap, ◌∙◌}
use Rattle.std.proofs.Common.{arith}
use Rattle.std.proofs.Math.Seq.{drop-cons}
use Rattle.std.proofs.Math.ListN.{drop_of_length-le}
use Rattle.std.specs.Char.{is_ascii_digit}
use Rattle.std.specs.List.{list_all}
use Rattle.std.proofs.lemmas.Bool.{le-ltb, lt-ltb}
use Rattle.name_paths.specs.Number.{number_from, number_of_digits}

-- the bytes before a place are digits, and write this number
pub record DigitsSoFar (word : List ℕ) (place number : ℕ) : Type 0 where
  pub all : list_all is_ascii_digit (drop place word) ≡ list_all is_ascii_digit word
  pub value : number_from number (drop place word) ≡ number_of_digits word
  pub fits : number < 2 ^ 64

-- the number of a word, if it has 64 bits
abbrev pub value_of : List ℕ → Option ℕ
value_of word =
    cond (list_all is_ascii_digit word && ltb (number_of_digits word) (2 ^ 64)) (Some (number_of_digits word)) None

-- further digits make no number less
pub number_from-ge : (n : ℕ) (digits : List ℕ) → n ≤ number_from n digits
number_from-ge n [] = omega arith
number_from-ge n (c ∷ cs) = omega (arith, number_from-ge (10 * n + (c - 48)) cs)

pub value_of-no_digits : (word : List ℕ) → list_all is_ascii_digit word ≡ false → None ≡ value_of word
value_of-no_digits word e = rw e refl

none_of : (b : Bool) (n : ℕ) → None ≡ cond (b && false) (Some n) None
none_of true n = refl
none_of false n = refl

pub value_of-great : (word : List ℕ) → 2 ^ 64 ≤ number_of_digits word → None ≡ value_of word
value_of-great word great = rw (le-ltb (number_of_digits word) (2 ^ 64) great) (none_of (list_all is_ascii_digit word) (number_of_digits word))

pub value_of-digits : (word : List ℕ) → list_all is_ascii_digit word ≡ true → number_of_digits word < 2 ^ 64 → Some (number_of_digits word) ≡ value_of word
value_of-digits word e small = rw (e, lt-ltb (number_of_digits word) (2 ^ 64) small) refl

-- with one more digit
pub number_of_digits-more : (word : List ℕ) (place number : ℕ) → DigitsSoFar word place number → place < length word
    → number_from (10 * number + (get_or word place 0 - 48)) (drop (suc place) word) ≡ number_of_digits word
number_of_digits-more word place number h within = ap (number_from number) (sym (drop-cons word place 0 within)) ∙ h.value

-- a number that grows too great stays so
pub value_of-grown : (word : List ℕ) (place number : ℕ) → DigitsSoFar word place number → place < length word
    → 2 ^ 64 ≤ 10 * number + (get_or word place 0 - 48) → None ≡ value_of word
value_of-grown word place number h within great =
    let grown = 10 * number + (get_or word place 0 - 48) in
    let more = number_of_digits-more word place number h within in
    let least = number_from-ge grown (drop (suc place) word) in
    value_of-great word (omega (arith, great, more, least))

-- at the end the number is that of the word
pub value_of-end : (word : List ℕ) (place number : ℕ) → DigitsSoFar word place number → length word ≤ place → Some number ≡ value_of word
value_of-end word place number h past =
    let none = drop_of_length-le word past in
    let all : list_all is_ascii_digit word ≡ true = sym h.all ∙ ap (list_all is_ascii_digit) none in
    let value : number ≡ number_of_digits word = ap (number_from number) (sym none) ∙ h.value in
    ap (λ (n : ℕ). Some n) value ∙ value_of-digits word all (omega (arith, value, h.fits))
