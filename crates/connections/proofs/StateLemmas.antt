-- The connections of a state: those that are there, numbers that differ, one in the place of another.
use Rattle.std.proofs.Common.{◌≡◌, ◌≢◌, ℕ, List, [], ◌∷◌, ◌++◌, true, false, not, refl, sym, ap, ◌∙◌, subst, inl, inr}
use Rattle.std.specs.Prelude.{◌==◌, Option, Some, None}
use Rattle.std.proofs.lemmas.Bool.{cases_Bool, cases_eq, cond-true, cond-false, not_from_true, not_from_false}
use Rattle.spec_machine.specs.Connection.{Connection, connection_of, put_back}
use Rattle.spec_machine.proofs.Find.{test_same, test_other, or_else, connection_of-append, number_of_found}
use Rattle.ads_served.specs.Opened.{AreApart}
use Rattle.connections.specs.Present.{present}

pub present-gone : {C : Type 0} (k : Connection C) (ks : List (Connection C)) → k.gone ≡ true → present (k ∷ ks) ≡ present ks
present-gone {C} k ks e = cond-false (not k.gone) (k ∷ present ks) (present ks) (not_from_true k.gone e)

pub present-there : {C : Type 0} (k : Connection C) (ks : List (Connection C)) → k.gone ≡ false → present (k ∷ ks) ≡ k ∷ present ks
present-there {C} k ks e = cond-true (not k.gone) (k ∷ present ks) (present ks) (not_from_false k.gone e)

pub connection_of-same : {C : Type 0} (n : ℕ) (k : Connection C) (ks : List (Connection C)) → k.number ≡ n → connection_of n (k ∷ ks) ≡ Some k
unfolding connection_of
connection_of-same {C} n k ks e = cond-true (k.number == n) (Some k) (connection_of n ks) (test_same k.number n e)

pub connection_of-other : {C : Type 0} (n : ℕ) (k : Connection C) (ks : List (Connection C)) → k.number ≢ n → connection_of n (k ∷ ks) ≡ connection_of n ks
unfolding connection_of
connection_of-other {C} n k ks e = cond-false (k.number == n) (Some k) (connection_of n ks) (test_other k.number n e)

pub put_back-same : {C : Type 0} (l k : Connection C) (ks : List (Connection C)) → k.number ≡ l.number → put_back l (k ∷ ks) ≡ l ∷ ks
unfolding put_back
put_back-same {C} l k ks e = cond-true (k.number == l.number) (l ∷ ks) (k ∷ put_back l ks) (test_same k.number l.number e)

pub put_back-other : {C : Type 0} (l k : Connection C) (ks : List (Connection C)) → k.number ≢ l.number → put_back l (k ∷ ks) ≡ k ∷ put_back l ks
unfolding put_back
put_back-other {C} l k ks e = cond-false (k.number == l.number) (l ∷ ks) (k ∷ put_back l ks) (test_other k.number l.number e)

-- whoever is found has another number than one that is not found
pub number_differs : {C : Type 0} (n : ℕ) (k : Connection C) (ks : List (Connection C)) → connection_of n (k ∷ ks) ≡ None → k.number ≢ n
number_differs {C} n k ks e same = let both = sym (connection_of-same n k ks same) ∙ e in cc

pub none_behind : {C : Type 0} (n : ℕ) (k : Connection C) (ks : List (Connection C)) → connection_of n (k ∷ ks) ≡ None → connection_of n ks ≡ None
none_behind {C} n k ks e = sym (connection_of-other n k ks (number_differs n k ks e)) ∙ e

-- who is not there does not come by another that takes its place
pub put_back-none : {C : Type 0} (n : ℕ) (l : Connection C) (ks : List (Connection C)) → connection_of n ks ≡ None → connection_of n (put_back l ks) ≡ None
unfolding put_back
put_back-none {C} n l [] e = e
put_back-none {C} n l (k ∷ ks) e = elim (cases_eq k.number l.number) [
  | inl q ↦ subst (λ (xs : List (Connection C)). connection_of n xs ≡ None) (sym (put_back-same l k ks q))
      (connection_of-other n l ks (λ r. number_differs n k ks e (q ∙ r)) ∙ none_behind n k ks e)
  | inr q ↦ subst (λ (xs : List (Connection C)). connection_of n xs ≡ None) (sym (put_back-other l k ks q))
      (connection_of-other n k (put_back l ks) (number_differs n k ks e) ∙ put_back-none n l ks (none_behind n k ks e))
]

pub was_none : {C : Type 0} (n : ℕ) (l : Connection C) (ks : List (Connection C)) → connection_of n (put_back l ks) ≡ None → connection_of n ks ≡ None
unfolding put_back
was_none {C} n l [] e = e
was_none {C} n l (k ∷ ks) e = elim (cases_eq k.number l.number) [
  | inl q ↦ let at_l = subst (λ (xs : List (Connection C)). connection_of n xs ≡ None) (put_back-same l k ks q) e in
      connection_of-other n k ks (λ r. number_differs n l ks at_l (sym q ∙ r)) ∙ none_behind n l ks at_l
  | inr q ↦ let at_k = subst (λ (xs : List (Connection C)). connection_of n xs ≡ None) (put_back-other l k ks q) e in
      connection_of-other n k ks (number_differs n k (put_back l ks) at_k) ∙ was_none n l ks (none_behind n k (put_back l ks) at_k)
]

pub AreApart-put_back : {C : Type 0} (l : Connection C) (ks : List (Connection C)) → AreApart ks → AreApart (put_back l ks)
unfolding put_back
AreApart-put_back {C} l [] apart = apart
AreApart-put_back {C} l (k ∷ ks) apart = elim (cases_eq k.number l.number) [
  | inl q ↦ subst AreApart (sym (put_back-same l k ks q)) (ap (λ n. connection_of n ks) (sym q) ∙ apart.0, apart.1)
  | inr q ↦ subst AreApart (sym (put_back-other l k ks q)) (put_back-none k.number l ks apart.0, AreApart-put_back l ks apart.1)
]

-- a connection that takes its own place changes nothing
pub put_back-itself : {C : Type 0} (n : ℕ) (k : Connection C) (ks : List (Connection C)) → connection_of n ks ≡ Some k → put_back k ks ≡ ks
unfolding put_back
put_back-itself {C} n k [] e = refl
put_back-itself {C} n k (j ∷ ks) e = elim (cases_eq j.number n) [
  | inl q ↦
      let same : j ≡ k = (let both = sym (connection_of-same n j ks q) ∙ e in cc) in
      put_back-same k j ks (ap (λ (x : Connection C). x.number) same) ∙ ap (λ x. x ∷ ks) (sym same)
  | inr q ↦
      let behind = sym (connection_of-other n j ks q) ∙ e in
      put_back-other k j ks (λ r. q (r ∙ number_of_found n k ks behind)) ∙ ap (λ xs. j ∷ xs) (put_back-itself n k ks behind)
]

pub none_of_nil : {C : Type 0} (n : ℕ) → connection_of {C = C} n [] ≡ None
unfolding connection_of
none_of_nil {C} n = refl

-- a new connection stands last
pub present-append : {C : Type 0} (ks ls : List (Connection C)) → present (ks ++ ls) ≡ present ks ++ present ls
present-append {C} [] ls = refl
present-append {C} (k ∷ ks) ls = elim (cases_Bool k.gone) [
  | inl e ↦ present-gone k (ks ++ ls) e ∙ present-append ks ls ∙ ap (λ ps. ps ++ present ls) (sym (present-gone k ks e))
  | inr e ↦ present-there k (ks ++ ls) e ∙ ap (λ ps. k ∷ ps) (present-append ks ls) ∙ ap (λ ps. ps ++ present ls) (sym (present-there k ks e))
]

pub AreApart-append : {C : Type 0} (k : Connection C) (ks : List (Connection C)) → connection_of k.number ks ≡ None → AreApart ks → AreApart (ks ++ k ∷ [])
AreApart-append {C} k [] new apart = (none_of_nil k.number, tt)
AreApart-append {C} k (j ∷ ks) new apart =
    let other = number_differs k.number j ks new in (
      connection_of-append j.number ks (k ∷ []) ∙ ap (λ o. or_else o (connection_of j.number (k ∷ []))) apart.0
          ∙ connection_of-other j.number k [] (λ e. other (sym e)) ∙ none_of_nil j.number,
      AreApart-append k ks (none_behind k.number j ks new) apart.1,
    )

pub was_none_append : {C : Type 0} (n : ℕ) (ks ls : List (Connection C)) → connection_of n (ks ++ ls) ≡ None → connection_of n ks ≡ None
was_none_append {C} n ks ls e = first (connection_of n ks) (connection_of n ls) (sym (connection_of-append n ks ls) ∙ e)
  where
    first : (o p : Option (Connection C)) → or_else o p ≡ None → o ≡ None
    first None p e = refl
    first (Some k) p e = cc
