-- A connection in a list by its number.
use Rattle.std.proofs.Common.{◌≡◌, ◌≢◌, ℕ, List, [], ◌∷◌, ◌++◌, map, cond, refl, sym, ◌∙◌, ap, inl, inr, arith}
use Rattle.std.proofs.Common.{true, false}
use Rattle.std.specs.Prelude.{Option, Some, None, ◌==◌, option_map}
use Rattle.std.proofs.lemmas.Bool.Decides.{nat_tests}
use Rattle.std.proofs.lemmas.Bool.{cases_eq}
use Rattle.spec_machine.specs.Connection.{Connection, connection_of, put_back}

abbrev pub or_else : {C : Type 0} → Option (Connection C) → Option (Connection C) → Option (Connection C)
or_else None o = o
or_else (Some k) o = Some k

pub test_same : (a b : ℕ) → a ≡ b → (a == b) ≡ true
test_same a b e = grind (arith, nat_tests, e)

pub test_other : (a b : ℕ) → a ≢ b → (a == b) ≡ false
test_other a b e = grind (arith, nat_tests, e)

pub connection_of-append : {C : Type 0} (c : ℕ) (ks ls : List (Connection C)) → connection_of c (ks ++ ls) ≡ or_else (connection_of c ks) (connection_of c ls)
unfolding connection_of
connection_of-append c [] ls = refl
connection_of-append c (k ∷ ks) ls =
    elim (cases_eq k.number c) [
      | inl q ↦ let t = test_same k.number c q in rw t refl
      | inr q ↦ let t = test_other k.number c q in rw t (connection_of-append c ks ls)
    ]

pub number_of_found : {C : Type 0} (n : ℕ) (k : Connection C) (ks : List (Connection C)) → connection_of n ks ≡ Some k → k.number ≡ n
unfolding connection_of
number_of_found n k [] e = cc
number_of_found {C} n k (l ∷ ls) e =
    elim (cases_eq l.number n) [
      | inl q ↦ let t = test_same l.number n q in let r = rw t at e in let s : l ≡ k = cc in sym (ap (λ (x : Connection C). x.number) s) ∙ q
      | inr q ↦ let t = test_other l.number n q in number_of_found n k ls (rw t at e)
    ]

pub connection_of-put_same : {C : Type 0} (n : ℕ) (new k : Connection C) (ks : List (Connection C))
    → connection_of n ks ≡ Some k → new.number ≡ n → connection_of n (put_back new ks) ≡ Some new
unfolding connection_of put_back
connection_of-put_same n new k [] e same = cc
connection_of-put_same n new k (l ∷ ls) e same =
    elim (cases_eq l.number n) [
      | inl q ↦
          let t = test_same l.number new.number (q ∙ sym same) in
          let u = test_same new.number n same in
          rw (t, u) refl
      | inr q ↦
          let t = test_other l.number new.number (λ r. q (r ∙ same)) in
          let u = test_other l.number n q in
          rw (t, u) (connection_of-put_same n new k ls (rw u at e) same)
    ]

pub connection_of-put_other : {C : Type 0} (c : ℕ) (new : Connection C) (ks : List (Connection C))
    → new.number ≢ c → connection_of c (put_back new ks) ≡ connection_of c ks
unfolding connection_of put_back
connection_of-put_other c new [] ne = refl
connection_of-put_other c new (l ∷ ls) ne =
    elim (cases_eq l.number new.number) [
      | inl q ↦
          let t = test_same l.number new.number q in
          let u = test_other new.number c ne in
          let v = test_other l.number c (λ r. ne (sym q ∙ r)) in
          rw (t, u, v) refl
      | inr q ↦
          let t = test_other l.number new.number q in
          rw t (ap (λ o. cond (l.number == c) (Some l) o) (connection_of-put_other c new ls ne))
    ]

pub connection_of-map : {C : Type 0} (c : ℕ) (f : Connection C → Connection C) → ((k : Connection C) → (f k).number ≡ k.number)
    → (ks : List (Connection C)) → connection_of c (map f ks) ≡ option_map f (connection_of c ks)
unfolding connection_of
connection_of-map c f h [] = refl
connection_of-map c f h (l ∷ ls) =
    elim (cases_eq l.number c) [
      | inl q ↦ let t = test_same l.number c q in let u = test_same (f l).number c (h l ∙ q) in rw (t, u) refl
      | inr q ↦ let t = test_other l.number c q in let u = test_other (f l).number c (λ r. q (sym (h l) ∙ r)) in rw (t, u) (connection_of-map c f h ls)
    ]
