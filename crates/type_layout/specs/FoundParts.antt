-- The part that a found place and type are.
use Rattle.std.specs.Prelude.{ℕ, List}
use Rattle.spec_plant.specs.Listed as plain
use Rattle.spec_plant.specs.Trees.{tree_of}
use Rattle.spec_plant.specs.Parts.{TypePart}
use Rattle.spec_plant.specs.AcceptedTypes.{IsSized}
use Rattle.type_layout.specs.Shapes.{shape_of_ref}
use Rattle.type_layout.specs.declared.shape.TypeRef.{TypeRef}

-- a place and a type that names types of the list
abbrev pub part_in : List plain.NamedType → ℕ × TypeRef → TypePart
part_in types found = record { first = found.0; type = tree_of types (shape_of_ref found.1) }

-- its type may be asked for parts in its turn
abbrev pub IsSizedPart : List plain.NamedType → ℕ × TypeRef → Type 0
IsSizedPart types found = IsSized types (shape_of_ref found.1)
