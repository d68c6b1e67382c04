-- The connections that are there, where no two have one number.
use Rattle.std.proofs.Common.{◌≡◌, ◌≢◌, ℕ, List, [], ◌∷◌, true, false, sym, ap, ◌∙◌, subst, inl, inr}
use Rattle.std.specs.Prelude.{Bool, not, ◌||◌, ◌==◌, map, filter, Some, None}
use Rattle.std.proofs.lemmas.Bool.{cases_Bool, cases_eq, cond-true, cond-false, not_from_true, not_from_false}
use Rattle.spec_machine.specs.Connection.{Connection, connection_of}
use Rattle.spec_machine.specs.MachineState.{MachineState, present_numbers}
use Rattle.spec_machine.specs.Offers.{is_among, is_gone, is_gone_at}
use Rattle.spec_machine.proofs.Find.{test_same, test_other}
use Rattle.ads_served.specs.Opened.{AreApart}

-- no two numbers are the same
abbrev pub AreDistinct : List ℕ → Type 0
AreDistinct [] = Unit {0}
AreDistinct (n ∷ ns) = (is_among n ns ≡ false) × AreDistinct ns

abbrev numbers_of : {C : Type 0} → List (Connection C) → List ℕ
numbers_of {C} ks = map (λ (k : Connection C). k.number) (filter (λ (k : Connection C). not k.gone) ks)

numbers-gone : {C : Type 0} (k : Connection C) (ks : List (Connection C)) → k.gone ≡ true → numbers_of (k ∷ ks) ≡ numbers_of ks
numbers-gone {C} k ks e =
    ap (map (λ (j : Connection C). j.number))
    (cond-false (not k.gone) (k ∷ filter (λ (j : Connection C). not j.gone) ks) (filter (λ (j : Connection C). not j.gone) ks) (not_from_true k.gone e))

numbers-there : {C : Type 0} (k : Connection C) (ks : List (Connection C)) → k.gone ≡ false → numbers_of (k ∷ ks) ≡ k.number ∷ numbers_of ks
numbers-there {C} k ks e =
    ap (map (λ (j : Connection C). j.number))
    (cond-true (not k.gone) (k ∷ filter (λ (j : Connection C). not j.gone) ks) (filter (λ (j : Connection C). not j.gone) ks) (not_from_false k.gone e))

-- a connection of this number is found, and is there
record IsThere {C : Type 0} (c : ℕ) (ks : List (Connection C)) : Type 0 where
  connection : Connection C
  found : connection_of c ks ≡ Some connection
  here : connection.gone ≡ false

same_found : {C : Type 0} (n : ℕ) (k : Connection C) (ks : List (Connection C)) → k.number ≡ n → connection_of n (k ∷ ks) ≡ Some k
unfolding connection_of
same_found n k ks e = cond-true (k.number == n) (Some k) (connection_of n ks) (test_same k.number n e)

other_found : {C : Type 0} (n : ℕ) (k : Connection C) (ks : List (Connection C)) → k.number ≢ n → connection_of n (k ∷ ks) ≡ connection_of n ks
unfolding connection_of
other_found n k ks e = cond-false (k.number == n) (Some k) (connection_of n ks) (test_other k.number n e)

-- behind one of another number
there_behind : {C : Type 0} (c : ℕ) (k : Connection C) (ks : List (Connection C)) → connection_of k.number ks ≡ None → IsThere c ks → IsThere c (k ∷ ks)
there_behind c k ks none there = record {
  connection = there.connection;
  found = other_found c k ks (λ same. (let found : connection_of k.number ks ≡ Some there.connection = ap (λ n. connection_of n ks) same ∙ there.found in cc))
      ∙ there.found;
  here = there.here;
}

or_other : (a b : Bool) → a ≡ false → (a || b) ≡ true → b ≡ true
or_other true b e f = cc
or_other false b e f = f

among_there : {C : Type 0} (ks : List (Connection C)) → AreApart ks → (c : ℕ) → is_among c (numbers_of ks) ≡ true → IsThere c ks
among_there [] apart c among = (let no : false ≡ true = among in cc)
among_there {C} (k ∷ ks) apart c among = elim (cases_Bool k.gone) [
  | inl gone ↦ there_behind c k ks apart.0 (among_there ks apart.1 c (ap (is_among c) (sym (numbers-gone k ks gone)) ∙ among))
  | inr here ↦
      let among_both : is_among c (k.number ∷ numbers_of ks) ≡ true = ap (is_among c) (sym (numbers-there k ks here)) ∙ among in
      elim (cases_eq k.number c) [
        | inl same ↦ record { connection = k; found = same_found c k ks same; here = here }
        | inr differs ↦ there_behind c k ks apart.0
            (among_there ks apart.1 c (or_other (k.number == c) (is_among c (numbers_of ks)) (test_other k.number c differs) among_both))
      ]
]

not_among : {C : Type 0} (n : ℕ) (ks : List (Connection C)) → AreApart ks → connection_of n ks ≡ None → is_among n (numbers_of ks) ≡ false
not_among n ks apart none = elim (cases_Bool (is_among n (numbers_of ks))) [
  | inl among ↦ (let there = among_there ks apart n among in let both = sym there.found ∙ none in cc)
  | inr other ↦ other
]

distinct_numbers : {C : Type 0} (ks : List (Connection C)) → AreApart ks → AreDistinct (numbers_of ks)
distinct_numbers [] apart = tt
distinct_numbers {C} (k ∷ ks) apart = elim (cases_Bool k.gone) [
  | inl gone ↦ subst AreDistinct (sym (numbers-gone k ks gone)) (distinct_numbers ks apart.1)
  | inr here ↦ subst AreDistinct (sym (numbers-there k ks here)) (not_among k.number ks apart.1 apart.0, distinct_numbers ks apart.1)
]

pub distinct : {W C : Type 0} (s : MachineState W C) → AreApart s.connections → AreDistinct (present_numbers s)
distinct s apart = distinct_numbers s.connections apart

pub are_there : {W C : Type 0} (s : MachineState W C) → AreApart s.connections → (c : ℕ) → is_among c (present_numbers s) ≡ true → is_gone_at c s ≡ false
are_there s apart c among = let there = among_there s.connections apart c among in ap is_gone there.found ∙ there.here
