-- A connection of a machine that is there, by its number and by its place among those that are.
use Rattle.std.proofs.Common.{◌≡◌, ◌≢◌, ℕ, zero, suc, List, [], ◌∷◌, set, true, false, refl, sym, ap, ◌∙◌, subst, inl, inr}
use Rattle.std.specs.Prelude.{remove, slice_get, Option, Some, None}
use Rattle.std.proofs.lemmas.Bool.{cases_Bool}
use Rattle.spec_machine.specs.Connection.{Connection, connection_of, put_back}
use Rattle.ads_served.specs.Opened.{AreApart}
use Rattle.connections.specs.Present.{present}
use Rattle.connections.proofs.StateLemmas.{present-gone, present-there, connection_of-same, connection_of-other, put_back-same, put_back-other}

-- it is found by its number, and its place is where a change of it is seen
pub record StandsAt {C : Type 0} (ks : List (Connection C)) (i : ℕ) (k : Connection C) : Type 0 where
  pub found : connection_of k.number ks ≡ Some k
  pub there : k.gone ≡ false
  pub put : (l : Connection C) → l.number ≡ k.number → l.gone ≡ false → present (put_back l ks) ≡ set (present ks) i l
  pub ended : (l : Connection C) → l.number ≡ k.number → l.gone ≡ true → present (put_back l ks) ≡ remove (present ks) i

-- another before it
other_before : {C : Type 0} (n : ℕ) (j k : Connection C) (ks : List (Connection C))
    → connection_of j.number ks ≡ None → connection_of n ks ≡ Some k → j.number ≢ n
other_before {C} n j k ks none found same = let both = sym (ap (λ m. connection_of m ks) same) ∙ none in let no = sym both ∙ found in cc

behind_gone : {C : Type 0} (j k : Connection C) (ks : List (Connection C)) (i : ℕ)
    → j.gone ≡ true → j.number ≢ k.number → StandsAt ks i k → StandsAt (j ∷ ks) i k
behind_gone {C} j k ks i gone other at = record {
  found = connection_of-other k.number j ks other ∙ at.found;
  there = at.there;
  put = λ l same there. ap present (put_back-other l j ks (λ e. other (e ∙ same))) ∙ present-gone j (put_back l ks) gone ∙ at.put l same there
      ∙ sym (ap (λ ps. set ps i l) (present-gone j ks gone));
  ended = λ l same ends. ap present (put_back-other l j ks (λ e. other (e ∙ same))) ∙ present-gone j (put_back l ks) gone ∙ at.ended l same ends
      ∙ sym (ap (λ ps. remove ps i) (present-gone j ks gone));
}

behind_there : {C : Type 0} (j k : Connection C) (ks : List (Connection C)) (i : ℕ)
    → j.gone ≡ false → j.number ≢ k.number → StandsAt ks i k → StandsAt (j ∷ ks) (suc i) k
behind_there {C} j k ks i here other at = record {
  found = connection_of-other k.number j ks other ∙ at.found;
  there = at.there;
  put = λ l same there. ap present (put_back-other l j ks (λ e. other (e ∙ same))) ∙ present-there j (put_back l ks) here
      ∙ ap (λ ps. j ∷ ps) (at.put l same there) ∙ sym (ap (λ ps. set ps (suc i) l) (present-there j ks here));
  ended = λ l same ends. ap present (put_back-other l j ks (λ e. other (e ∙ same))) ∙ present-there j (put_back l ks) here
      ∙ ap (λ ps. j ∷ ps) (at.ended l same ends) ∙ sym (ap (λ ps. remove ps (suc i)) (present-there j ks here));
}

at_head : {C : Type 0} (k : Connection C) (ks : List (Connection C)) → k.gone ≡ false → StandsAt (k ∷ ks) zero k
at_head {C} k ks here = record {
  found = connection_of-same k.number k ks refl;
  there = here;
  put = λ l same there. ap present (put_back-same l k ks (sym same)) ∙ present-there l ks there ∙ sym (ap (λ ps. set ps zero l) (present-there k ks here));
  ended = λ l same ends. ap present (put_back-same l k ks (sym same)) ∙ present-gone l ks ends ∙ sym (ap (λ ps. remove ps zero) (present-there k ks here));
}

pub stands_at : {C : Type 0} (ks : List (Connection C)) (i : ℕ) (k : Connection C) → AreApart ks → slice_get (present ks) i ≡ Some k → StandsAt ks i k
stands_at {C} [] i k apart there = absurd (let none : ◌≡◌ {A = Option (Connection C)} None (Some k) = there in cc)
stands_at {C} (j ∷ ks) i k apart there = elim (cases_Bool j.gone) [
  | inl gone ↦
      let rest = stands_at ks i k apart.1 (sym (ap (λ ps. slice_get ps i) (present-gone j ks gone)) ∙ there) in
      behind_gone j k ks i gone (other_before k.number j k ks apart.0 rest.found) rest
  | inr here ↦ by (λ m. stands_at ks m k apart.1) i here (sym (ap (λ ps. slice_get ps i) (present-there j ks here)) ∙ there)
]
  where
    by : ((m : ℕ) → slice_get (present ks) m ≡ Some k → StandsAt ks m k)
        → (m : ℕ) → j.gone ≡ false → slice_get (j ∷ present ks) m ≡ Some k → StandsAt (j ∷ ks) m k
    by rest zero here first = let same : j ≡ k = cc in subst (λ l. StandsAt (j ∷ ks) zero l) same (at_head j ks here)
    by rest (suc m) here later = let at = rest m later in behind_there j k ks m here (other_before k.number j k ks apart.0 at.found) at

-- those at other places have other numbers
pub others_differ : {C : Type 0} (ks : List (Connection C)) (i m : ℕ) (k l : Connection C) → AreApart ks
    → slice_get (present ks) i ≡ Some k → slice_get (present ks) m ≡ Some l → l.number ≡ k.number → m ≡ i
others_differ {C} [] i m k l apart there also same = absurd (let none : ◌≡◌ {A = Option (Connection C)} None (Some k) = there in cc)
others_differ {C} (j ∷ ks) i m k l apart there also same = elim (cases_Bool j.gone) [
  | inl gone ↦ others_differ ks i m k l apart.1 (sym (ap (λ ps. slice_get ps i) (present-gone j ks gone)) ∙ there)
      (sym (ap (λ ps. slice_get ps m) (present-gone j ks gone)) ∙ also) same
  | inr here ↦ by (λ a b x y. others_differ ks a b k l apart.1 x y same) i m
      (sym (ap (λ ps. slice_get ps i) (present-there j ks here)) ∙ there) (sym (ap (λ ps. slice_get ps m) (present-there j ks here)) ∙ also)
]
  where
    first_again : (x y : Connection C) (a : ℕ) → j ≡ x → slice_get (present ks) a ≡ Some y → x.number ≡ y.number → ⊥
    first_again x y a first later equal =
        let rest = stands_at ks a y apart.1 later in
        other_before y.number j y ks apart.0 rest.found (ap (λ (z : Connection C). z.number) first ∙ equal)

    by : ((a b : ℕ) → slice_get (present ks) a ≡ Some k → slice_get (present ks) b ≡ Some l → b ≡ a)
        → (a b : ℕ) → slice_get (j ∷ present ks) a ≡ Some k → slice_get (j ∷ present ks) b ≡ Some l → b ≡ a
    by rest zero zero x y = refl
    by rest zero (suc b) x y = let first : j ≡ k = cc in absurd (first_again k l b first y (sym same))
    by rest (suc a) zero x y = let first : j ≡ l = cc in absurd (first_again l k a first x same)
    by rest (suc a) (suc b) x y = ap suc (rest a b x y)
