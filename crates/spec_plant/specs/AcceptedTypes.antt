-- Which lists of types are accepted: description rules 6, 7 and 8, said over the value.
use Rattle.std.specs.Prelude.{ℕ, slice_get, ◌-◌, ◌*◌, ◌^◌, ◌≤◌, List, [], ◌∷◌, ◌++◌, length, map, Bool, true}
use Rattle.std.specs.Prelude.{false, ◌&&◌, not, ◌==◌, nat_le, nat_lt, if◌then◌else◌, IsTrue, bytes_eq, codes}
use Rattle.std.specs.Prelude.{ℤ, pos, negsuc}
use Rattle.std.specs.List.{list_all}
use Rattle.std.specs.Option.{option_map_or}
use Rattle.name_paths.specs.Identifier.{is_identifier, lower}
use Rattle.spec_plant.specs.Plain.{Kind, all_kinds, kind_name, kind_size, is_base, is_signed}
use Rattle.spec_plant.specs.Listed.{Bound, Elem, Plain, Text, Struct, Enum, Shape, One, Array, Member}
use Rattle.spec_plant.specs.Listed.{EnumValue, NamedType, Structure, Enumeration, type_name, is_structure}
use Rattle.spec_plant.specs.Listed.{is_enumeration}
use Rattle.spec_plant.specs.Trees.{TypeTree, trees_of, named_tree, tree_of}
use Rattle.spec_plant.specs.Sizes.{element_count, type_size, type_depth}
use Rattle.spec_plant.specs.Spelling.{high_of}

-- whether something holds of any two of a list, the earlier one first
abbrev pub all_pairs : {X : Type 0} → (X → X → Bool) → List X → Bool
all_pairs test [] = true
all_pairs test (x ∷ xs) = list_all (test x) xs && all_pairs test xs

-- two names that differ, ASCII case aside
abbrev pub differ : List ℕ → List ℕ → Bool
differ a b = not (bytes_eq (lower a) (lower b))

-- an identifier of at most 255 bytes
abbrev pub is_short_identifier : List ℕ → Bool
is_short_identifier name = is_identifier name && nat_le (length name) 255

-- at most 255 bytes, each from a space to a tilde
abbrev pub is_comment : List ℕ → Bool
is_comment text = nat_le (length text) 255 && list_all (λ c. nat_le 0x20 c && nat_le c 0x7E) text

-- the words of type texts, which no type may have as its name
abbrev pub type_words : List (List ℕ)
type_words = map kind_name all_kinds ++ (codes "STRING" ∷ codes "ARRAY" ∷ codes "OF" ∷ [])

abbrev pub is_type_name : List ℕ → Bool
is_type_name name = is_short_identifier name && list_all (differ name) type_words

-- from -2^31 to 2^31 - 1
abbrev pub is_index : ℤ → Bool
is_index (pos n) = nat_lt n (2 ^ 31)
is_index (negsuc n) = nat_lt n (2 ^ 31)

-- at least one index, the first and the last in range
abbrev pub is_bound : Bound → Bool
is_bound b = nat_lt 0 b.count && is_index b.low && is_index (high_of b)

-- one to three dimensions
abbrev pub are_bounds : List Bound → Bool
are_bounds bounds = nat_lt 0 (length bounds) && nat_le (length bounds) 3 && list_all is_bound bounds

-- whether there is a structure, or an enumeration, at this place of a list
abbrev pub is_structure_at : List NamedType → ℕ → Bool
is_structure_at known place = option_map_or is_structure (slice_get known place) false

abbrev pub is_enumeration_at : List NamedType → ℕ → Bool
is_enumeration_at known place = option_map_or is_enumeration (slice_get known place) false

-- an element that names only these types
abbrev pub is_elem : List NamedType → Elem → Bool
is_elem known (Plain kind) = true
is_elem known (Text n) = nat_le n 65534
is_elem known (Struct place) = is_structure_at known place
is_elem known (Enum place) = is_enumeration_at known place

abbrev pub is_shape : List NamedType → Shape → Bool
is_shape known (One elem) = is_elem known elem
is_shape known (Array bounds elem) = are_bounds bounds && is_elem known elem

-- the greatest number of elements of an array, and of bytes of a structure or a symbol
abbrev pub LIMIT : ℕ
LIMIT = 1048576

-- whether an array has not too many elements
abbrev pub is_small_shape : Shape → Bool
is_small_shape (One elem) = true
is_small_shape (Array bounds elem) = nat_le (element_count bounds) LIMIT

abbrev pub is_member : List NamedType → Member → Bool
is_member known m =
    is_short_identifier m.name && is_comment m.comment && is_shape known m.shape && is_small_shape m.shape

-- whether a number lies in the range of a base
abbrev pub is_in_range : Kind → ℤ → Bool
is_in_range base (pos n) = nat_lt n (2 ^ (8 * kind_size base - (if is_signed base then 1 else 0)))
is_in_range base (negsuc n) = is_signed base && nat_lt n (2 ^ (8 * kind_size base - 1))

abbrev pub is_same_number : ℤ → ℤ → Bool
is_same_number (pos m) (pos n) = m == n
is_same_number (negsuc m) (negsuc n) = m == n
is_same_number y z = false

-- two values of an enumeration that differ in name and number
abbrev pub are_two_values : EnumValue → EnumValue → Bool
are_two_values v w = differ v.name w.name && not (is_same_number v.number w.number)

-- from 1 to 1,000
abbrev pub is_count : ℕ → Bool
is_count n = nat_lt 0 n && nat_le n 1000

-- what is asked of the members of a structure, or of the values of an enumeration
abbrev pub has_parts : List NamedType → NamedType → Bool
has_parts known (Structure name members) =
    is_count (length members) && list_all (is_member known) members
    && all_pairs (λ (m n : Member). differ m.name n.name) members
has_parts known (Enumeration name base values) =
    is_count (length values) && is_base base
    && list_all (λ (v : EnumValue). is_short_identifier v.name && is_in_range base v.number) values
    && all_pairs are_two_values values

-- at most 1,048,576 bytes, and structures nested at most 16 deep
abbrev pub is_small_type : TypeTree → Bool
is_small_type tree = nat_le (type_size tree) LIMIT && nat_le (type_depth tree) 16

-- a type after these
abbrev pub is_next_type : List NamedType → NamedType → Bool
is_next_type known t =
    is_type_name (type_name t) && list_all (λ u. differ (type_name u) (type_name t)) known
    && has_parts known t && is_small_type (named_tree (trees_of known) t)

-- each type is accepted after those before it
abbrev pub are_types_behind : List NamedType → List NamedType → Bool
are_types_behind known [] = true
are_types_behind known (t ∷ ts) = is_next_type known t && are_types_behind (known ++ t ∷ []) ts

-- at most 1,000 types, each accepted after those before it
pub record AreTypes (types : List NamedType) : Type 0 where
  pub count : length types ≤ 1000
  pub each : IsTrue (are_types_behind [] types)

-- the element of a shape
abbrev pub elem_within : Shape → Elem
elem_within (One elem) = elem
elem_within (Array bounds elem) = elem

-- a type that names only types of the list, with at most 1,048,576 elements and bytes
pub record IsSized (types : List NamedType) (shape : Shape) : Type 0 where
  pub named : IsTrue (is_elem types (elem_within shape))
  pub few_elements : IsTrue (is_small_shape shape)
  pub few_bytes : type_size (tree_of types shape) ≤ LIMIT
