-- How a text is cut into pieces, one piece at a time.
use Rattle.std.proofs.Common.{◌≡◌, ℕ, ◌≤◌, ◌<◌, true, List, [], ◌∷◌, length, take, drop, refl, ap, arith, ⊎_elim, one-add, MatchOption}
use Rattle.std.specs.Prelude.{position}
use Rattle.std.specs.List.{onto_first, position_or_len}
use Rattle.std.proofs.lemmas.Bool.{cases_Bool, cases_lt, lt-ltb, le-ltb}
use Rattle.name_paths.specs.Path.{begins_step, pieces_of}
use Rattle.name_paths.specs.Pieces.{IsRest}

abbrev first_step : List ℕ → ℕ
first_step = position_or_len begins_step

-- no step begins
pieces_of_none : (cs : List ℕ) → length cs ≤ first_step cs → pieces_of cs ≡ cs ∷ []
pieces_of_none [] h = refl
pieces_of_none (c ∷ cs) h =
    ⊎_elim (λ e. absurd (let k = rw e at h in omega arith))
    (λ e. let k = rw e at h in rw e (ap (onto_first c) (pieces_of_none cs (omega arith)))) (cases_Bool (begins_step c))

first_step-begins : (c : ℕ) (cs : List ℕ) → begins_step c ≡ true
    → (pieces_of (c ∷ cs) ≡ take (first_step (c ∷ cs)) (c ∷ cs) ∷ drop 1 (pieces_of (drop (first_step (c ∷ cs)) (c ∷ cs))))
    × IsRest (drop (first_step (c ∷ cs)) (c ∷ cs))
first_step-begins c cs e = simp e (refl, refl)

-- the first step begins at the first such byte
pieces_of_some : (cs : List ℕ) → first_step cs < length cs
    → (pieces_of cs ≡ take (first_step cs) cs ∷ drop 1 (pieces_of (drop (first_step cs) cs))) × IsRest (drop (first_step cs) cs)
pieces_of_some [] h = absurd (omega arith)
pieces_of_some (c ∷ cs) h =
    ⊎_elim (λ e. first_step-begins c cs e)
    (λ e. let k = rw e at h in let more = pieces_of_some cs (omega arith) in rw (e, one-add) (ap (onto_first c) more.0, more.1))
    (cases_Bool (begins_step c))

-- what `position` says of the pieces
pub pieces_of-position : (cs : List ℕ) → MatchOption (position begins_step cs) (pieces_of cs ≡ cs ∷ [])
    (λ at. (pieces_of cs ≡ take at cs ∷ drop 1 (pieces_of (drop at cs))) × IsRest (drop at cs))
pieces_of-position cs =
    ⊎_elim (λ h. rw (lt-ltb (first_step cs) (length cs) h) (pieces_of_some cs h))
    (λ h. rw (le-ltb (first_step cs) (length cs) h) (pieces_of_none cs h))
    (cases_lt (first_step cs) (length cs))
