-- A test of a group by its number alone: it is enough to look at the table's rows.
use Rattle.std.proofs.Common.{◌≡◌, ℕ, List, [], ◌∷◌, true, false, refl, sym, ◌∙◌, ap, inl, inr}
use Rattle.std.specs.Prelude.{Bool, Option, Some, None, ◌==◌, ◌||◌, not}
use Rattle.std.specs.List.{list_all}
use Rattle.std.proofs.lemmas.Bool.{cases_Bool, eqb-true, and_parts, or_cases, false≢true}
use Rattle.spec_formats.specs.Groups.{Group, GroupRow, group_table, group_in, group_of}

-- each row that passes the test has a number that does
abbrev pub are_told_by : (Option Group → Bool) → (ℕ → Bool) → List GroupRow → Bool
are_told_by test is_one rows = list_all (λ (r : GroupRow). is_one r.number || not (test (Some r.group))) rows

not_true : (b : Bool) → not b ≡ true → b ≡ false
not_true true h = absurd (false≢true h)
not_true false h = refl

of_row : (test : Option Group → Bool) (is_one : ℕ → Bool) (r : GroupRow) (number : ℕ) → (is_one r.number || not (test (Some r.group))) ≡ true
    → r.number ≡ number → is_one number ≡ false → test (Some r.group) ≡ false
of_row test is_one r number told same other = elim (or_cases (is_one r.number) (not (test (Some r.group))) told) [
  | inl one ↦ absurd (false≢true (sym other ∙ ap is_one (sym same) ∙ one))
  | inr not_there ↦ not_true (test (Some r.group)) not_there
]

in_rows : (test : Option Group → Bool) (is_one : ℕ → Bool) (rows : List GroupRow) → test None ≡ false → are_told_by test is_one rows ≡ true
    → (number : ℕ) → is_one number ≡ false → test (group_in rows number) ≡ false
unfolding group_in
in_rows test is_one [] none told number other = none
in_rows test is_one (r ∷ rows) none told number other =
    let parts = and_parts (is_one r.number || not (test (Some r.group))) (are_told_by test is_one rows) told in
    elim (cases_Bool (r.number == number)) [
      | inl t ↦ rw t (of_row test is_one r number parts.0 (eqb-true r.number number t) other)
      | inr t ↦ rw t (in_rows test is_one rows none parts.1 number other)
    ]

-- another number passes no test that its rows tell by the number
pub other_number : (test : Option Group → Bool) (is_one : ℕ → Bool) → test None ≡ false → are_told_by test is_one group_table ≡ true
    → (number : ℕ) → is_one number ≡ false → test (group_of number) ≡ false
unfolding group_of
other_number test is_one none told number other = in_rows test is_one group_table none told number other

-- a test that one number passes
pub one_number : (test : Option Group → Bool) (k : ℕ) → test None ≡ false → are_told_by test (λ n. n == k) group_table ≡ true
    → test (group_of k) ≡ true → (number : ℕ) → (number == k) ≡ test (group_of number)
one_number test k none told passes number = elim (cases_Bool (number == k)) [
  | inl t ↦ t ∙ sym (ap (λ n. test (group_of n)) (eqb-true number k t) ∙ passes)
  | inr t ↦ t ∙ sym (other_number test (λ n. n == k) none told number t)
]
