-- Which types of a peer have leaves: the types of its upload, as far as a symbol's value meets them.
use Rattle.std.specs.Prelude.{ℕ, zero, suc, ◌+◌, ◌*◌, List, [], ◌∷◌, Bool, true, false, not, ◌&&◌, ◌==◌}
use Rattle.std.specs.Prelude.{nat_le, Option, Some, None, find, bytes_eq, nat_abs, ◌-ℤ◌}
use Rattle.std.specs.Option.{option_map_or}
use Rattle.name_paths.specs.Identifier.{lower}
use Rattle.spec_plant.specs.Plain.{kind_size}
use Rattle.spec_plant.specs.TypeTexts.{Ends, ElemText, PlainText, StringText, NamedText, TypeText, type_text_of}
use Rattle.spec_formats.specs.TypeEntry.{TypeEntry, TypeFields}

-- This project's own choice: structures are nested at most so deep.
abbrev pub MAX_DEPTH : ℕ
MAX_DEPTH = 16

-- the first type of a name, ASCII case aside
unfoldable pub type_named : List TypeEntry → List ℕ → Option TypeEntry
type_named types name = find (λ (t : TypeEntry). bytes_eq (lower t.fields.name) (lower name)) types

-- how many elements one dimension has
abbrev pub elements_of : Ends → ℕ
elements_of e = nat_abs (e.high -ℤ e.low) + 1

-- how many elements an array has; 1 where there are no dimensions
abbrev pub element_count : List Ends → ℕ
element_count [] = 1
element_count (e ∷ es) = elements_of e * element_count es

abbrev pub elem_size : List TypeEntry → ElemText → ℕ
elem_size types (PlainText kind) = kind_size kind
elem_size types (StringText n) = n + 1
elem_size types (NamedText name) = option_map_or (λ (t : TypeEntry). t.fields.size) (type_named types name) 0

abbrev pub text_size : List TypeEntry → TypeText → ℕ
text_size types t = element_count t.ends * elem_size types t.elem

-- a member has the size of its text, begins where the one before ended or later, and ends in its structure
abbrev pub stands_in : List TypeEntry → ℕ → ℕ → TypeFields → TypeText → Bool
stands_in types end size f t =
    (f.size == text_size types t) && nat_le end f.offset && nat_le (f.offset + f.size) size

abbrev pub is_member : (ElemText → Bool) → List TypeEntry → ℕ → ℕ → TypeFields → Option TypeText → Bool
is_member is_sound types end size f None = false
is_member is_sound types end size f (Some t) = stands_in types end size f t && is_sound t.elem

-- the members of a structure of this size, when those before them end here
abbrev pub are_members : (ElemText → Bool) → List TypeEntry → ℕ → ℕ → List TypeFields → Bool
are_members is_sound types end size [] = true
are_members is_sound types end size (f ∷ fs) =
    is_member is_sound types end size f (type_text_of f.type_name)
    && are_members is_sound types (f.offset + f.size) size fs

-- a named type without sub entries is an enumeration, and any other a structure
abbrev pub is_enumeration : List TypeFields → Bool
is_enumeration [] = true
is_enumeration (f ∷ fs) = false

-- a named type that is there and has bytes, and whose sub entries are sound
abbrev pub is_named_type : (List TypeFields → ℕ → Bool) → Option TypeEntry → Bool
is_named_type are_sound None = false
is_named_type are_sound (Some t) = not (t.fields.size == 0) && are_sound t.subs t.fields.size

-- an element whose leaves can be taken, when its structures may be nested so deep
unfoldable pub is_sound_elem : ℕ → List TypeEntry → ElemText → Bool
is_sound_elem depth types (PlainText kind) = true
is_sound_elem depth types (StringText n) = true
is_sound_elem zero types (NamedText name) = is_named_type (λ subs size. is_enumeration subs) (type_named types name)
is_sound_elem (suc depth) types (NamedText name) =
    is_named_type (λ subs size. are_members (is_sound_elem depth types) types 0 size subs) (type_named types name)

-- a symbol of this size has the type of its text, and its leaves can be taken
abbrev pub is_sound_text : List TypeEntry → ℕ → Option TypeText → Bool
is_sound_text types size None = false
is_sound_text types size (Some t) = (text_size types t == size) && is_sound_elem MAX_DEPTH types t.elem
