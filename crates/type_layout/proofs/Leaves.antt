-- What has no parts: plain types, texts and enumerations have no members, and none of these is an array.
use Rattle.std.proofs.Common.{◌≡◌, ℕ, List, true, false, refl}
use Rattle.std.specs.Prelude.{Option, Some, None, slice_get, ℤ}
use Rattle.std.specs.Option.{option_map_or}
use Rattle.spec_plant.specs.Listed.{Elem, Plain, Text, Struct, Enum, NamedType, Structure, Enumeration, is_structure, is_enumeration}
use Rattle.spec_plant.specs.Trees.{trees_of, tree_at, elem_tree}
use Rattle.spec_plant.specs.Parts.{element_of, member_of}
use Rattle.spec_plant.specs.AcceptedTypes.{AreTypes, is_elem}
use Rattle.spec_plant.proofs.TypeLemmas.{stands_at, named_there}

-- a named type is no array
named_no_element : (types : List NamedType) (place : ℕ) (t : NamedType) (indexes : List ℤ) → AreTypes types
    → slice_get types place ≡ Some t → element_of (tree_at (trees_of types) place) indexes ≡ None
named_no_element types place (Structure name ms) indexes a e = let there = (stands_at types place (Structure name ms) a e).tree in rw there refl
named_no_element types place (Enumeration name base values) indexes a e = let there =
    (stands_at types place (Enumeration name base values) a e).tree in rw there refl

pub no_element : (types : List NamedType) (e : Elem) (indexes : List ℤ) → AreTypes types
    → is_elem types e ≡ true → element_of (elem_tree (trees_of types) e) indexes ≡ None
no_element types (Plain k) indexes a h = refl
no_element types (Text n) indexes a h = refl
no_element types (Struct p) indexes a h = let there = named_there is_structure types p h in named_no_element types p (there.0) indexes a (there.1)
no_element types (Enum p) indexes a h = let there = named_there is_enumeration types p h in named_no_element types p (there.0) indexes a (there.1)

-- an enumeration has no members
pub no_member : (types : List NamedType) (place : ℕ) (name : List ℕ) → AreTypes types
    → is_elem types (Enum place) ≡ true → member_of (tree_at (trees_of types) place) name ≡ None
no_member types place name a h = go (slice_get types place) refl h
  where
    go : (o : Option NamedType) → slice_get types place ≡ o → option_map_or is_enumeration o false ≡ true
        → member_of (tree_at (trees_of types) place) name ≡ None
    go None e f = cc
    go (Some (Structure n ms)) e f = cc
    go (Some (Enumeration n base values)) e f = let there = (stands_at types place (Enumeration n base values) a e).tree in rw there refl
