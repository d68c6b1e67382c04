-- What an index keeps: names in lower case, each with a number.
use Rattle.std.specs.Prelude.{◌≡◌, ℕ, List, [], ◌∷◌, ◌++◌, Option, Some, None, bytes_eq, if◌then◌else◌}

-- the number of the first entry with a name
abbrev pub number_of : List ℕ → List (List ℕ × ℕ) → Option ℕ
number_of name [] = None
number_of name (e ∷ entries) = if bytes_eq name e.0 then Some e.1 else number_of name entries

-- one more entry, which counts where its name is new
abbrev pub AddsEntry : List ℕ × ℕ → List (List ℕ × ℕ) → List (List ℕ × ℕ) → Type 0
AddsEntry e old new = (name : List ℕ) → number_of name new ≡ number_of name (old ++ e ∷ [])
