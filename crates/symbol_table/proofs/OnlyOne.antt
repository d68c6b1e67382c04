-- The one element that passes a test.
use Rattle.std.proofs.Common.{◌≡◌, ℕ, ◌<◌, Bool, true, cond, List, [], ◌∷◌, length, get_or, refl, inl, inr, arith, zero, suc}
use Rattle.std.specs.Prelude.{Some, None, find, AllPairs}
use Rattle.std.proofs.lemmas.Bool.{cases_Bool, cases_order}

-- none passes
pub find-none : {X : Type 0} (test : X → Bool) (xs : List X) → ((k : ℕ) (d : X) → k < length xs → test (get_or xs k d) ≡ true → ⊥) → find test xs ≡ None
find-none test [] fails = refl
find-none {X} test (x ∷ xs) fails =
    elim (cases_Bool (test x)) [
      | inl t ↦ absurd (fails 0 x (omega arith) t)
      | inr t ↦ rw t (find-none test xs (λ k d h. fails (suc k) d (omega (arith, h))))
    ]

-- no other passes
pub find-only : {X : Type 0} (test : X → Bool) (xs : List X) (i : ℕ) (d : X) → i < length xs
    → ((k : ℕ) (e : X) → k < length xs → test (get_or xs k e) ≡ true → k ≡ i) → find test xs ≡ cond (test (get_or xs i d)) (Some (get_or xs i d)) None
find-only test [] i d h only = absurd (omega (arith, h))
find-only test (x ∷ xs) zero d h only =
    elim (cases_Bool (test x)) [
      | inl t ↦ rw t refl
      | inr t ↦ rw t (find-none test xs (λ k e l p. let same = only (suc k) e (omega (arith, l)) p in omega (arith, same)))
    ]
find-only test (x ∷ xs) (suc i) d h only =
    elim (cases_Bool (test x)) [
      | inl t ↦ absurd (let same = only 0 x (omega arith) t in omega (arith, same))
      | inr t ↦ rw t (find-only test xs i d (omega (arith, h)) (λ k e l p. let same = only (suc k) e (omega (arith, l)) p in omega (arith, same)))
    ]

-- where a relation that goes both ways holds of no two elements, those that it holds of are at one place
pub one_place : {X : Type 0} (R : X → X → Type 0) (xs : List X) → ((x y : X) → R x y → R y x) → AllPairs (λ x y. R x y → ⊥) xs
    → (i j : ℕ) (d : X) → i < length xs → j < length xs → R (get_or xs i d) (get_or xs j d) → i ≡ j
one_place R xs back apart i j d in_i in_j r =
    elim (cases_order i j) [
      | inl e ↦ e
      | inr o ↦ elim o [ inl l ↦ absurd (apart i j d l in_j r) | inr l ↦ absurd (apart j i d l in_i (back _ _ r)) ]
    ]

-- what is found passes the test
pub find-passes : {X : Type 0} (test : X → Bool) (xs : List X) (x : X) → find test xs ≡ Some x → test x ≡ true
find-passes test [] x e = cc
find-passes test (y ∷ xs) x e =
    elim (cases_Bool (test y)) [
      | inl t ↦ let same : Some y ≡ Some x = rw t at e in let is : y ≡ x = cc in rw (← is) t
      | inr t ↦ let rest : find test xs ≡ Some x = rw t at e in find-passes test xs x rest
    ]
