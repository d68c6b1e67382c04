-- The file in which accepted descriptions are kept. This project's own choice.
use Rattle.std.specs.Prelude.{ℕ, List, ◌++◌, Bool, true, Option, Some, None, codes}

-- the store's name with an ending, where they are kept
abbrev pub kept_name : Bool → Option (List ℕ) → Option (List ℕ)
kept_name true (Some store) = Some (store ++ codes ".description")
kept_name _ _ = None
