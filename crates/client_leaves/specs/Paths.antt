-- The paths of an array's elements, as the code puts them together.
use Rattle.std.specs.Prelude.{ℕ, List, [], ◌∷◌, ◌++◌, flat_map}
use Rattle.spec_plant.specs.TypeTexts.{Ends}
use Rattle.spec_client.specs.Leaves.{indexes_in}

-- a path before which this stands, behind a separator an index of each dimension, and a closing bracket
abbrev pub paths_from : ℕ → List ℕ → List Ends → List (List ℕ)
paths_from separator before [] = (before ++ 93 ∷ []) ∷ []
paths_from separator before (e ∷ es) = flat_map (λ index. paths_from 44 (before ++ separator ∷ index) es) (indexes_in e)
