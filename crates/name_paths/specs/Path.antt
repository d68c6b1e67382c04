-- Paths: an identifier, and then parts by name (`.pos`) and by index (`[3]`, `[1,-2]`, `[0,0,7]`).
use Rattle.std.specs.Prelude.{ℕ, ◌-◌, Bool, ◌||◌, ◌==◌, nat_le, List, [], ◌∷◌, length, slice_index, take}
use Rattle.std.specs.Prelude.{Option, Some, None, option_map, option_and_then, if◌then◌else◌, ℤ}
use Rattle.std.specs.List.{slice_split, onto_first}
use Rattle.name_paths.specs.Identifier.{is_identifier}
use Rattle.name_paths.specs.Name.{is_full_stop}
use Rattle.name_paths.specs.Number.{number_of}

-- a step: a name, or one to three indexes
pub data Step : Type 0 where
  name_step : List ℕ → Step
  index_step : List ℤ → Step

-- a byte at which a step begins: a full stop or an opening bracket
abbrev pub begins_step : ℕ → Bool
begins_step c = is_full_stop c || c == 91

-- a text cut before each byte at which a step begins
abbrev pub pieces_of : List ℕ → List (List ℕ)
pieces_of [] = [] ∷ []
pieces_of (c ∷ cs) =
    if begins_step c then [] ∷ onto_first c (pieces_of cs) else onto_first c (pieces_of cs)

-- a step by name
abbrev pub name_step_of : List ℕ → Option Step
name_step_of text = if is_identifier text then Some (name_step text) else None

-- a comma
abbrev pub is_comma : ℕ → Bool
is_comma c = c == 44

-- each text as a number
abbrev pub numbers_of : List (List ℕ) → Option (List ℤ)
numbers_of [] = Some []
numbers_of (text ∷ texts) =
    option_and_then (λ n. option_map (λ ns. n ∷ ns) (numbers_of texts)) (number_of text)

-- one to three numbers joined by commas
abbrev pub indexes_of : List ℕ → Option (List ℤ)
indexes_of text =
    if nat_le (length (slice_split is_comma text)) 3 then numbers_of (slice_split is_comma text) else None

-- a step by index, behind its opening bracket: indexes and a closing bracket
abbrev pub index_step_of : List ℕ → Option Step
index_step_of text =
    if slice_index text (length text - 1) == 93
    then option_map index_step (indexes_of (take (length text - 1) text)) else None

-- a step behind the first one: a full stop and a name, or indexes in brackets
abbrev pub later_step_of : List ℕ → Option Step
later_step_of [] = None
later_step_of (c ∷ cs) = if is_full_stop c then name_step_of cs else index_step_of cs

-- the steps behind the first one
abbrev pub later_steps_of : List (List ℕ) → Option (List Step)
later_steps_of [] = Some []
later_steps_of (piece ∷ pieces) =
    option_and_then (λ s. option_map (λ ss. s ∷ ss) (later_steps_of pieces)) (later_step_of piece)

-- the first step is a name
abbrev pub all_steps_of : List (List ℕ) → Option (List Step)
all_steps_of [] = None
all_steps_of (piece ∷ pieces) =
    option_and_then (λ s. option_map (λ ss. s ∷ ss) (later_steps_of pieces)) (name_step_of piece)

-- the steps of a path, which has at most 1,024 bytes
abbrev pub steps_of : List ℕ → Option (List Step)
steps_of text = if nat_le (length text) 1024 then all_steps_of (pieces_of text) else None

-- the names that the steps begin with
abbrev pub first_names : List Step → List (List ℕ)
first_names [] = []
first_names (name_step text ∷ steps) = text ∷ first_names steps
first_names (index_step indexes ∷ steps) = []
