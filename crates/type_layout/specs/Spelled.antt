-- Which types can be written, and how the code goes over their bounds.
use Rattle.std.specs.Prelude.{◌≡◌, ℕ, ◌<◌, List, ◌∷◌, ◌++◌, length}
use Rattle.spec_plant.specs.Listed as plain
use Rattle.spec_plant.specs.Spelling.{bound_text}
use Rattle.spec_plant.specs.AcceptedTypes.{elem_within}
use Rattle.type_layout.specs.Shapes.{bound_of}
use Rattle.type_layout.specs.declared.shape.Bound.{Bound}

-- a named type is in the list
abbrev pub IsThere : List plain.NamedType → plain.Elem → Type 0
IsThere types (plain.Plain kind) = Unit {0}
IsThere types (plain.Text n) = Unit {0}
IsThere types (plain.Struct place) = place < length types
IsThere types (plain.Enum place) = place < length types

abbrev pub NamesThere : List plain.NamedType → plain.Shape → Type 0
NamesThere types shape = IsThere types (elem_within shape)

-- a bound behind a comma
abbrev pub comma_bound : Bound → List ℕ
comma_bound b = 44 ∷ bound_text (bound_of b)

-- some bytes were appended
abbrev pub Extends : List ℕ → List ℕ → Type 0
Extends old new = (more : List ℕ) × (new ≡ old ++ more)
