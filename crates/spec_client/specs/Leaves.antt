-- The leaves of a value: the plain types, texts and enumerations that it is made of, with their places.
use Rattle.std.specs.Prelude.{ℕ, zero, suc, ◌+◌, List, [], ◌∷◌, ◌++◌, map, flat_map, take, drop, codes, Option, Some, None, pos, ◌+ℤ◌}
use Rattle.std.specs.List.{range_with_len}
use Rattle.spec_plant.specs.Plain.{kind_id, kind_size}
use Rattle.spec_plant.specs.Spelling.{integer_text, joined_by_comma}
use Rattle.spec_plant.specs.TypeTexts.{Ends, ElemText, PlainText, StringText, NamedText, TypeText, type_text_of}
use Rattle.spec_formats.specs.TypeEntry.{TypeEntry, TypeFields}
use Rattle.spec_formats.specs.ValueText.{value_text}
use Rattle.spec_client.specs.LeafTypes.{MAX_DEPTH, type_named, elements_of, elem_size}
use Rattle.spec_client.specs.Printed.{escaped, line}

pub record Leaf : Type 0 where
  pub path : List ℕ
  pub place : ℕ
  pub type_id : ℕ
  pub size : ℕ

abbrev pub leaf : List ℕ → ℕ → ℕ → ℕ → Leaf
leaf path place type_id size = record { path = path; place = place; type_id = type_id; size = size }

-- the indexes of one dimension, as texts
abbrev pub indexes_in : Ends → List (List ℕ)
indexes_in e = map (λ k. integer_text (e.low +ℤ pos k)) (range_with_len 0 (elements_of e))

-- the indexes of all elements, the last of them moving fastest
abbrev pub indexes_of : List Ends → List (List (List ℕ))
indexes_of [] = [] ∷ []
indexes_of (e ∷ es) = flat_map (λ index. map (λ others. index ∷ others) (indexes_of es)) (indexes_in e)

-- `[1,-2]` behind the array's path
abbrev pub element_path : List ℕ → List (List ℕ) → List ℕ
element_path path indexes = path ++ codes "[" ++ joined_by_comma indexes ++ codes "]"

-- the leaves of elements that stand one behind another
abbrev pub leaves_of_elements : (List ℕ → ℕ → List Leaf) → ℕ → ℕ → List (List ℕ) → List Leaf
leaves_of_elements leaves_at place size [] = []
leaves_of_elements leaves_at place size (path ∷ paths) =
    leaves_at path place ++ leaves_of_elements leaves_at (place + size) size paths

-- the leaves of a text without dimensions are those of its one element
abbrev pub leaves_of_text : (List ℕ → ℕ → List Leaf) → ℕ → List ℕ → ℕ → List Ends → List Leaf
leaves_of_text leaves_at size path place [] = leaves_at path place
leaves_of_text leaves_at size path place (e ∷ es) =
    leaves_of_elements leaves_at place size (map (element_path path) (indexes_of (e ∷ es)))

-- the leaves of a type's text, where those of its element are given
abbrev pub leaves_in_text : (ElemText → List ℕ → ℕ → List Leaf) → List TypeEntry → List ℕ → ℕ → Option TypeText → List Leaf
leaves_in_text leaves_at types path place None = []
leaves_in_text leaves_at types path place (Some t) =
    leaves_of_text (leaves_at t.elem) (elem_size types t.elem) path place t.ends

-- the leaves of a member of a structure that stands here
abbrev pub leaves_of_member : (ElemText → List ℕ → ℕ → List Leaf) → List TypeEntry → List ℕ → ℕ → TypeFields → List Leaf
leaves_of_member leaves_at types path place f =
    leaves_in_text leaves_at types (path ++ codes "." ++ f.name) (place + f.offset) (type_text_of f.type_name)

-- a named type with sub entries is a structure, and one without is an enumeration
abbrev pub leaves_of_named : (TypeFields → List Leaf) → List ℕ → ℕ → Option TypeEntry → List Leaf
leaves_of_named leaves_at path place None = []
leaves_of_named leaves_at path place (Some t) = elim t.subs [
  | [] ↦ leaf path place t.fields.type_id t.fields.size ∷ []
  | sub ∷ subs ↦ flat_map leaves_at (sub ∷ subs)
]

-- the leaves of an element at a path and a place, when structures are nested at most so deep
unfoldable pub leaves_of_elem : ℕ → List TypeEntry → ElemText → List ℕ → ℕ → List Leaf
leaves_of_elem depth types (PlainText kind) path place = leaf path place (kind_id kind) (kind_size kind) ∷ []
leaves_of_elem depth types (StringText n) path place = leaf path place 30 (n + 1) ∷ []
leaves_of_elem zero types (NamedText name) path place = leaves_of_named (λ f. []) path place (type_named types name)
leaves_of_elem (suc depth) types (NamedText name) path place =
    leaves_of_named (leaves_of_member (leaves_of_elem depth types) types path place) path place (type_named types name)

-- the leaves of a symbol of this name and type
abbrev pub leaves_of : List TypeEntry → List ℕ → List ℕ → List Leaf
leaves_of types name type_name =
    leaves_in_text (leaves_of_elem MAX_DEPTH types) types name 0 (type_text_of type_name)

-- a leaf's path, and the text of its value in the symbol's bytes
abbrev pub leaf_line : List ℕ → Leaf → List ℕ
leaf_line bytes l =
    line (escaped l.path ++ codes " " ++ value_text l.type_id (take l.size (drop l.place bytes)))
