-- A text cut at the first place of a byte.
use Rattle.std.proofs.Common.{◌≡◌, ℕ, ◌+◌, ◌≤◌, Bool, List, [], ◌∷◌, length, take, drop, refl, ap, arith, ⊎_elim, MatchOption, None}
use Rattle.std.specs.Prelude.{position}
use Rattle.std.specs.List.{onto_first, position_or_len, slice_split}
use Rattle.std.proofs.lemmas.Bool.{cases_Bool, cases_lt, lt-ltb, le-ltb, lt-leb}
use Rattle.name_paths.specs.Path.{is_comma, indexes_of}
use Rattle.std.proofs.lemmas.List.Splits.{slice_split_first, length-slice_split}

-- no byte passes
slice_split_no : (p : ℕ → Bool) (cs : List ℕ) → length cs ≤ position_or_len p cs → slice_split p cs ≡ cs ∷ []
slice_split_no p [] h = refl
slice_split_no p (c ∷ cs) h =
    ⊎_elim (λ e. absurd (let k = rw e at h in omega arith))
    (λ e. let k = rw e at h in rw e (ap (onto_first c) (slice_split_no p cs (omega arith)))) (cases_Bool (p c))

-- what `position` says of the parts
pub slice_split-position : (p : ℕ → Bool) (cs : List ℕ) → MatchOption (position p cs) (slice_split p cs ≡ cs ∷ [])
    (λ at. slice_split p cs ≡ take at cs ∷ slice_split p (drop (at + 1) cs))
slice_split-position p cs =
    ⊎_elim (λ h. rw (lt-ltb (position_or_len p cs) (length cs) h) (slice_split_first p cs 0 h))
    (λ h. rw (le-ltb (position_or_len p cs) (length cs) h) (slice_split_no p cs h))
    (cases_lt (position_or_len p cs) (length cs))

-- four numbers are no indexes
pub indexes_of_four : (text a b c : List ℕ) (behind_a behind_b behind_c : List ℕ) → slice_split is_comma text ≡ a ∷ slice_split is_comma behind_a
    → slice_split is_comma behind_a ≡ b ∷ slice_split is_comma behind_b
    → slice_split is_comma behind_b ≡ c ∷ slice_split is_comma behind_c → indexes_of text ≡ None
indexes_of_four text a b c behind_a behind_b behind_c e f g =
    let n = length-slice_split is_comma behind_c in
    rw (e, f, g, lt-leb (length (a ∷ b ∷ c ∷ slice_split is_comma behind_c)) 3 (omega arith)) refl
