-- What is read from the canonical text of a type: its dimensions, and its element by name.
use Rattle.std.specs.Prelude.{◌≡◌, ℕ, List, [], map, slice_get, Some, IsTrue}
use Rattle.std.specs.Option.{option_map_or}
use Rattle.spec_plant.specs.Listed.{Bound, Elem, Plain, Text, Struct, Enum, Shape, One, Array, NamedType, type_name}
use Rattle.spec_plant.specs.Trees.{tree_of}
use Rattle.spec_plant.specs.Spelling.{type_text, high_of}
use Rattle.spec_plant.specs.TypeTexts.{Ends, ElemText, PlainText, StringText, NamedText, TypeText, type_text_of}
use Rattle.spec_plant.specs.AcceptedTypes.{AreTypes, is_shape}

abbrev pub ends_of_bound : Bound → Ends
ends_of_bound b = record { low = b.low; high = high_of b }

-- the name of the type at a place
abbrev pub name_at : List NamedType → ℕ → List ℕ
name_at types place = option_map_or type_name (slice_get types place) []

abbrev pub written_elem : List NamedType → Elem → ElemText
written_elem types (Plain kind) = PlainText kind
written_elem types (Text n) = StringText n
written_elem types (Struct place) = NamedText (name_at types place)
written_elem types (Enum place) = NamedText (name_at types place)

abbrev pub written_type : List NamedType → Shape → TypeText
written_type types (One elem) = record { ends = []; elem = written_elem types elem }
written_type types (Array bounds elem) =
    record { ends = map ends_of_bound bounds; elem = written_elem types elem }

-- a canonical text of accepted types is read as what it was written for
abbrev pub IsReadBack : Type 0
IsReadBack = (types : List NamedType) (shape : Shape) → AreTypes types → IsTrue (is_shape types shape)
    → type_text_of (type_text (tree_of types shape)) ≡ Some (written_type types shape)
