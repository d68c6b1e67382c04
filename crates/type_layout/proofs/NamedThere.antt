-- A type that names only types of a list may be written.
use Rattle.std.proofs.Common.{◌≡◌, true}
use Rattle.std.specs.Prelude.{List}
use Rattle.spec_plant.specs.Listed.{Elem, Plain, Text, Struct, Enum, Shape, NamedType, is_structure, is_enumeration}
use Rattle.spec_plant.specs.AcceptedTypes.{is_elem, elem_within, IsSized}
use Rattle.spec_plant.proofs.TypeLemmas.{at-below}
use Rattle.type_layout.specs.Spelled.{IsThere, NamesThere}

elem_there : (types : List NamedType) (e : Elem) → is_elem types e ≡ true → IsThere types e
elem_there types (Plain kind) h = tt
elem_there types (Text n) h = tt
elem_there types (Struct place) h = at-below is_structure types place h
elem_there types (Enum place) h = at-below is_enumeration types place h

-- what `type_text` asks for, of a type that may be asked for its size
pub names_there : (types : List NamedType) (shape : Shape) → IsSized types shape → NamesThere types shape
names_there types shape sized = elem_there types (elem_within shape) sized.named
