-- Numbers of a list, and a set's.
use Rattle.std.proofs.Common.{◌≡◌, ℕ, zero, suc, ◌+◌, ◌<◌, ◌≤◌, min, Bool, true, false, cond, List, [], ◌∷◌, ◌++◌, length, take}
use Rattle.std.proofs.Common.{refl, sym, ap, subst, ◌∙◌, inl, inr, nat_eq, arith}
use Rattle.std.specs.Prelude.{◌==◌, nat_lt, Some, None}
use Rattle.std.specs.List.{list_any, position, position_or_len}
use Rattle.std.proofs.lemmas.Bool.{cases_Bool, eqb-true, eq-eqb, ltb-true, ltb-false}
use Rattle.std.proofs.lemmas.Bool.Decides.{nat_tests}
use Rattle.std.proofs.lemmas.List.{length-take}
use Rattle.std.proofs.lemmas.List.Recursion.{is_position_or_len}
use Rattle.indexmap.specs.IndexSet.{insert_key}
use Rattle.spec_machine.specs.Reading.{is_among}

nat_eq-comm : (x y : ℕ) → (x == y) ≡ (y == x)
nat_eq-comm x y =
    elim (cases_Bool (x == y)) [
      | inl t ↦ let back = eq-eqb y x (sym (eqb-true x y t)) in t ∙ sym back
      | inr f ↦ elim (cases_Bool (y == x)) [
        | inl t ↦ let back = eq-eqb x y (sym (eqb-true y x t)) in cc
        | inr g ↦ f ∙ sym g
      ]
    ]

-- whether a set has a number, and whether the list of its numbers has it
pub set-is_among : (n : ℕ) (ns : List ℕ) → list_any (nat_eq n) ns ≡ is_among n ns
set-is_among n [] = refl
set-is_among n (m ∷ ms) = rw (nat_eq-comm n m, set-is_among n ms) refl

-- a number that is not there goes last
pub pushed : (n : ℕ) (ns : List ℕ) → is_among n ns ≡ false → insert_key nat_eq ns n ≡ ns ++ n ∷ []
pushed n ns new = rw (set-is_among n ns, new) refl

-- a number is among the first ones where its place is before their end

place : (ℕ → Bool) → List ℕ → ℕ
place p [] = 0
place p (x ∷ xs) = cond (p x) 0 (1 + place p xs)

place_is : (p : ℕ → Bool) (xs : List ℕ) → place p xs ≡ position_or_len p xs
unfolding place
place_is p xs = is_position_or_len (place p) p refl (λ x xs. refl) xs

one_less : (a b : ℕ) → nat_lt (1 + a) (suc b) ≡ nat_lt a b
one_less a b = grind (arith, nat_tests)

none_below : (a : ℕ) → nat_lt a 0 ≡ false
none_below a = grind (arith, nat_tests)

some_below : (a : ℕ) → nat_lt 0 (suc a) ≡ true
some_below a = grind (arith, nat_tests)

among_place : (n count : ℕ) (ns : List ℕ) → is_among n (take count ns) ≡ nat_lt (place (nat_eq n) ns) (length (take count ns))
unfolding place
among_place n zero ns = sym (none_below (place (nat_eq n) ns))
among_place n (suc count) [] = sym (none_below 0)
among_place n (suc count) (m ∷ ms) = elim (cases_Bool (n == m)) [
  | inl here ↦ rw (here, nat_eq-comm m n, here) (sym (some_below (length (take count ms))))
  | inr other ↦
      rw (other, nat_eq-comm m n, other) (among_place n count ms ∙ sym (one_less (place (nat_eq n) ms) (length (take count ms))))
]

-- the number stands at this place, or nowhere
record FoundAt (n i : ℕ) (ns : List ℕ) : Type 0 where
  is : place (nat_eq n) ns ≡ i
  within : i < length ns

found_at : (n i : ℕ) (ns : List ℕ) → position (nat_eq n) ns ≡ Some i → FoundAt n i ns
found_at n i ns found = elim (cases_Bool (nat_lt (position_or_len (nat_eq n) ns) (length ns))) [
  | inl there ↦
      let f = rw there at found in
      let same : position_or_len (nat_eq n) ns ≡ i = cc in
      record { is = place_is (nat_eq n) ns ∙ same; within = subst (λ k. k < length ns) same (ltb-true (position_or_len (nat_eq n) ns) (length ns) there) }
  | inr nowhere ↦ absurd (let f = rw nowhere at found in cc)
]

pub among_first : (n i count : ℕ) (ns : List ℕ) → position (nat_eq n) ns ≡ Some i → nat_lt i count ≡ is_among n (take count ns)
among_first n i count ns found =
    let f = found_at n i ns found in
    let within = f.within in
    let size = length-take count ns in
    let same : nat_lt i count ≡ nat_lt i (min count (length ns)) = grind (arith, nat_tests, within) in
    same ∙ sym (among_place n count ns ∙ ap (λ k. nat_lt k (length (take count ns))) f.is ∙ ap (nat_lt i) size)

pub not_among : (n count : ℕ) (ns : List ℕ) → position (nat_eq n) ns ≡ None → false ≡ is_among n (take count ns)
not_among n count ns none = elim (cases_Bool (nat_lt (position_or_len (nat_eq n) ns) (length ns))) [
  | inl there ↦ absurd (let f = rw there at none in cc)
  | inr nowhere ↦
      let past : length ns ≤ position_or_len (nat_eq n) ns = ltb-false (position_or_len (nat_eq n) ns) (length ns) nowhere in
      let size = length-take count ns in
      let none_there : nat_lt (position_or_len (nat_eq n) ns) (min count (length ns)) ≡ false = grind (arith, nat_tests, past) in
      sym (among_place n count ns ∙ ap (λ k. nat_lt k (length (take count ns))) (place_is (nat_eq n) ns)
      ∙ ap (nat_lt (position_or_len (nat_eq n) ns)) size ∙ none_there)
]

pub none_among : (n : ℕ) (ns : List ℕ) → length ns ≡ 0 → false ≡ is_among n ns
none_among n [] none = refl
none_among n (m ∷ ms) none = absurd (omega arith)
