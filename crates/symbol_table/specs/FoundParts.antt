-- For private contracts, and cited by no public clause: parts of a symbol as the code finds them.
use Rattle.std.specs.Prelude.{◌≡◌, ℕ, ◌+◌, ◌≤◌, List, Option, Some, None}
use Rattle.spec_plant.specs.Listed.{NamedType}
use Rattle.spec_plant.specs.Trees.{tree_of}
use Rattle.spec_plant.specs.Sizes.{type_size}
use Rattle.spec_plant.specs.Parts.{TypePart}
use Rattle.spec_plant.specs.AcceptedTypes.{IsSized, LIMIT}
use Rattle.type_layout.specs.Shapes.{shape_of_ref}
use Rattle.type_layout.specs.Descriptions.{area_of}
use Rattle.symbol_table.specs.Tables.{TableSymbol}
use Rattle.symbol_table.specs.declared.parts.Part.{Part}
use Rattle.symbol_table.specs.declared.found.Found.{Found}

-- the part that a value of the code's is
abbrev pub part_in : List NamedType → Part → TypePart
part_in types p = record { first = p.first; type = tree_of types (shape_of_ref p.kind) }

-- a part whose type may be asked for parts, and whose bytes are few
pub record IsSound (types : List NamedType) (p : Part) : Type 0 where
  pub sized : IsSized types (shape_of_ref p.kind)
  pub ends : p.first + type_size (tree_of types (shape_of_ref p.kind)) ≤ LIMIT

-- the part, with its comment
pub record IsPart (types : List NamedType) (part : TypePart) (comment : List ℕ) (p : Part) : Type 0 where
  pub sound : IsSound types p
  pub is : part_in types p ≡ part
  pub comment_is : p.comment.now ≡ comment

-- an answer exactly where there is a part, which it tells
abbrev pub Tells : List NamedType → List ℕ → Option TypePart → Option Part → Type 0
Tells types comment None None = Unit {0}
Tells types comment None (Some p) = ⊥
Tells types comment (Some part) None = ⊥
Tells types comment (Some part) (Some p) = IsPart types part comment p

-- the place of a part of a symbol with a number
pub record IsPlaceIn (types : List NamedType) (s : TableSymbol) (number : ℕ) (part : TypePart) (comment : List ℕ) (answer : Found) : Type 0 where
  pub symbol : answer.place.symbol ≡ number
  pub area : area_of answer.place.area ≡ s.area
  pub offset : answer.place.«at» ≡ s.offset + part.first
  pub len : answer.place.len ≡ type_size part.type
  pub type : tree_of types (shape_of_ref answer.kind) ≡ part.type
  pub sized : IsSized types (shape_of_ref answer.kind)
  pub comment_is : answer.comment.now ≡ comment

abbrev pub TellsPlace : List NamedType → TableSymbol → ℕ → List ℕ → Option TypePart → Option Found → Type 0
TellsPlace types s number comment None None = Unit {0}
TellsPlace types s number comment None (Some answer) = ⊥
TellsPlace types s number comment (Some part) None = ⊥
TellsPlace types s number comment (Some part) (Some answer) = IsPlaceIn types s number part comment answer
