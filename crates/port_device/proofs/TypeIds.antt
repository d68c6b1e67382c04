-- An element is no array, so both servers give it one id.
use Rattle.std.proofs.Common.{◌≡◌, ℕ, true, refl, List}
use Rattle.std.specs.Prelude.{Some, slice_get}
use Rattle.spec_plant.specs.Listed.{Elem, Plain, Text, Struct, Enum, NamedType, Structure, Enumeration, is_structure, is_enumeration}
use Rattle.spec_plant.specs.Trees.{tree_at, elem_tree, trees_of}
use Rattle.spec_plant.specs.Entries.{type_id}
use Rattle.spec_plant.specs.AcceptedTypes.{AreTypes, is_elem}
use Rattle.spec_plant.proofs.TypeLemmas.{named_there, stands_at}
use Rattle.spec_machine.specs.Manner.{Manner, Strict, Wide}
use Rattle.spec_machine.specs.Entries.{id_of_element, type_id_in}

named_id : (types : List NamedType) (place : ℕ) (t : NamedType) → AreTypes types
    → slice_get types place ≡ Some t → id_of_element (tree_at (trees_of types) place) ≡ type_id (tree_at (trees_of types) place)
named_id types place (Structure name ms) a e = let there = (stands_at types place (Structure name ms) a e).tree in rw there refl
named_id types place (Enumeration name base values) a e =
    let there = (stands_at types place (Enumeration name base values) a e).tree in rw there refl

element_id : (types : List NamedType) (e : Elem) → AreTypes types → is_elem types e ≡ true
    → id_of_element (elem_tree (trees_of types) e) ≡ type_id (elem_tree (trees_of types) e)
element_id types (Plain kind) a h = refl
element_id types (Text n) a h = refl
element_id types (Struct place) a h = let there = named_there is_structure types place h in named_id types place (there.0) a (there.1)
element_id types (Enum place) a h = let there = named_there is_enumeration types place h in named_id types place (there.0) a (there.1)

pub one_id : (x : Manner) (types : List NamedType) (e : Elem) → AreTypes types → is_elem types e ≡ true
    → type_id_in x (elem_tree (trees_of types) e) ≡ type_id (elem_tree (trees_of types) e)
one_id Strict types e a h = refl
one_id Wide types e a h = element_id types e a h
