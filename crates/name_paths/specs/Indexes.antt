-- The numbers that a value of the code's `Indexes` holds.
use Rattle.std.specs.Prelude.{◌≡◌, ◌==◌, List, [], ◌∷◌, if◌then◌else◌, ℤ, pos, MatchBool}
use Rattle.name_paths.specs.declared.indexes.Indexes.{Indexes}

-- its first one, two or three numbers
abbrev pub numbers_of_indexes : Indexes → List ℤ
numbers_of_indexes x =
    if x.count == 1 then x.i ∷ []
    else (if x.count == 2 then x.i ∷ x.j ∷ [] else x.i ∷ x.j ∷ x.k ∷ [])

-- it has one to three numbers, and 0 in each unused place
abbrev pub HasBlanks : Indexes → Type 0
HasBlanks x = MatchBool (x.count == 1) ((x.j ≡ pos 0) × (x.k ≡ pos 0))
    (MatchBool (x.count == 2) (x.k ≡ pos 0) (x.count ≡ 3))
