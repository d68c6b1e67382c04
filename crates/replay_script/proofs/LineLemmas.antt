-- The first line of a text, and the first word of a line.
use Rattle.std.proofs.Common.{◌≡◌, ℕ, suc, ◌+◌, ◌<◌, Bool, true, false, not, cond, eqb, ltb, List, [], ◌∷◌}
use Rattle.std.proofs.Common.{length, take, drop, Some, None, refl, sym, ap, ◌∙◌, arith, subst, inl, inr}
use Rattle.std.specs.List.{position, position_or_len, onto_first}
use Rattle.std.proofs.lemmas.Bool.{cases_Bool, ltb-true, ltb-false}
use Rattle.std.proofs.lemmas.Option.{cond_some}
use Rattle.std.proofs.lemmas.List.Sums.{prefix_len-le-length}
use Rattle.std.proofs.lemmas.List.Splits.{slice_split_first}
use Rattle.spec_machine.specs.ScriptLines.{lines_of, words_of}

-- the byte that ends a line, and the one between words
abbrev pub is_lf : ℕ → Bool
is_lf b = eqb b 10

abbrev pub is_space : ℕ → Bool
is_space b = eqb b 32

-- where an element is found
pub record Found (p : ℕ → Bool) (xs : List ℕ) (at : ℕ) : Type 0 where
  pub is : position_or_len p xs ≡ at
  pub within : at < length xs

pub found : (p : ℕ → Bool) (xs : List ℕ) (at : ℕ) → Some at ≡ position p xs → Found p xs at
found p xs at e =
    let h = cond_some (ltb (position_or_len p xs) (length xs)) (position_or_len p xs) at (sym e) in
    let within : position_or_len p xs < length xs = ltb-true _ _ h.0 in
    record { is = h.1; within = omega (arith, within, h.1) }

some_is_not_none : (b : Bool) (n : ℕ) → None ≡ cond b (Some n) None → b ≡ false
some_is_not_none true n e = cc
some_is_not_none false n e = refl

-- no element is found
pub missing : (p : ℕ → Bool) (xs : List ℕ) → None ≡ position p xs → position_or_len p xs ≡ length xs
missing p xs e =
    let past = ltb-false _ _ (some_is_not_none (ltb (position_or_len p xs) (length xs)) (position_or_len p xs) e) in
    omega (arith, past, prefix_len-le-length (λ x. not (p x)) xs)

-- a line goes up to its first LF
pub lines_of-first : (bs : List ℕ) (at : ℕ) → position_or_len is_lf bs ≡ at → at < length bs
    → lines_of bs ≡ take (at + 1) bs ∷ lines_of (drop (at + 1) bs)
unfolding lines_of
lines_of-first [] at is within = absurd (omega arith)
lines_of-first (b ∷ bs) at is within =
    let p = position_or_len is_lf bs in
    elim (cases_Bool (is_lf b)) [
      | inl ends ↦ let here : at ≡ 0 = sym is ∙ rw ends refl in rw (here, ends) refl
      | inr goes ↦
          let next : position_or_len is_lf (b ∷ bs) ≡ 1 + p = rw goes refl in
          let inside : p < length bs = omega (arith, next, is, within) in
          let there : at + 1 ≡ suc (p + 1) = omega (arith, next, is) in
          rw (there, goes) (ap (onto_first b) (lines_of-first bs p refl inside))
    ]

-- the last line may have none
pub lines_of-last : (bs : List ℕ) → 0 < length bs → position_or_len is_lf bs ≡ length bs → lines_of bs ≡ bs ∷ []
unfolding lines_of
lines_of-last [] some is = absurd (omega arith)
lines_of-last (b ∷ []) some is = elim (cases_Bool (is_lf b)) [
  | inl ends ↦ let none : position_or_len is_lf (b ∷ []) ≡ 0 = rw ends refl in absurd (omega (arith, none, is))
  | inr goes ↦ rw goes refl
]
lines_of-last (b ∷ c ∷ bs) some is = elim (cases_Bool (is_lf b)) [
  | inl ends ↦ let none : position_or_len is_lf (b ∷ c ∷ bs) ≡ 0 = rw ends refl in absurd (omega (arith, none, is))
  | inr goes ↦
      let next : position_or_len is_lf (b ∷ c ∷ bs) ≡ 1 + position_or_len is_lf (c ∷ bs) = rw goes refl in
      rw goes (ap (onto_first b) (lines_of-last (c ∷ bs) (omega arith) (omega (arith, next, is))))
]

pub words_of-first : (text : List ℕ) (at : ℕ) → position_or_len is_space text ≡ at → at < length text
    → words_of text ≡ take at text ∷ words_of (drop (at + 1) text)
words_of-first text at is within =
    let within' : position_or_len is_space text < length text = omega (arith, is, within) in
    subst (λ (n : ℕ). words_of text ≡ take n text ∷ words_of (drop (n + 1) text)) is (slice_split_first is_space text 0 within')

pub words_of-last : (text : List ℕ) → position_or_len is_space text ≡ length text → words_of text ≡ text ∷ []
words_of-last [] is = refl
words_of-last (b ∷ bs) is = elim (cases_Bool (is_space b)) [
  | inl ends ↦ let none : position_or_len is_space (b ∷ bs) ≡ 0 = rw ends refl in absurd (omega (arith, none, is))
  | inr goes ↦
      let next : position_or_len is_space (b ∷ bs) ≡ 1 + position_or_len is_space bs = rw goes refl in
      rw goes (ap (onto_first b) (words_of-last bs (omega (arith, next, is))))
]

-- a text has a first word
pub record HasFirst (words : List (List ℕ)) : Type 0 where
  pub first : List ℕ
  pub others : List (List ℕ)
  pub is : words ≡ first ∷ others

first_grows : (b : ℕ) (words : List (List ℕ)) → HasFirst words → HasFirst (onto_first b words)
first_grows b words h = record { first = b ∷ h.first; others = h.others; is = ap (onto_first b) h.is }

pub words_of-has_first : (text : List ℕ) → HasFirst (words_of text)
words_of-has_first [] = record { first = []; others = []; is = refl }
words_of-has_first (b ∷ bs) = elim (cases_Bool (is_space b)) [
  | inl ends ↦ record { first = []; others = words_of bs; is = rw ends refl }
  | inr goes ↦ let h = first_grows b (words_of bs) (words_of-has_first bs) in record { first = h.first; others = h.others; is = rw goes h.is }
]

-- no bytes, no lines
pub lines_of-nil : lines_of [] ≡ []
unfolding lines_of
lines_of-nil = refl
