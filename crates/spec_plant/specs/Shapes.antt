-- The type that a text names among the types of a list.
use Rattle.std.specs.Prelude.{ℕ, ◌+◌, List, [], ◌∷◌, map, Option, Some, option_map, option_and_then, position, slice_get, nat_abs, ◌-ℤ◌, false, if◌then◌else◌}
use Rattle.std.specs.Option.{option_map_or}
use Rattle.spec_plant.specs.Listed.{Bound, Elem, Plain, Text, Struct, Enum, Shape, One, Array, NamedType, type_name, is_structure}
use Rattle.spec_plant.specs.TypeTexts.{Ends, ElemText, PlainText, StringText, NamedText, TypeText, type_text_of, is_same_word}

-- the place of the first type with this name, ASCII case aside
abbrev pub place_named : List NamedType → List ℕ → Option ℕ
place_named types name = position (λ t. is_same_word (type_name t) name) types

-- the structure or enumeration at a place
abbrev pub elem_at : List NamedType → ℕ → Elem
elem_at types place =
    if option_map_or is_structure (slice_get types place) false then Struct place else Enum place

abbrev pub elem_named : List NamedType → ElemText → Option Elem
elem_named types (PlainText kind) = Some (Plain kind)
elem_named types (StringText n) = Some (Text n)
elem_named types (NamedText name) = option_map (elem_at types) (place_named types name)

-- a dimension by its least index and the number of its indexes
abbrev pub bound_between : Ends → Bound
bound_between e = record { low = e.low; count = nat_abs (e.high -ℤ e.low) + 1 }

abbrev pub shape_with : List Ends → Elem → Shape
shape_with [] elem = One elem
shape_with (e ∷ es) elem = Array (map bound_between (e ∷ es)) elem

abbrev pub shape_named : List NamedType → TypeText → Option Shape
shape_named types t = option_map (shape_with t.ends) (elem_named types t.elem)

-- the type that a text names; None where it is no type text, or names a type that is not in the list
unfoldable pub shape_of_text : List NamedType → List ℕ → Option Shape
shape_of_text types text = option_and_then (shape_named types) (type_text_of text)
