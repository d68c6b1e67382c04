-- The type at a place of a list, as a text names it.
use Rattle.std.proofs.Common.{◌≡◌, ℕ, Bool, true, false, cond, List, refl}
use Rattle.std.specs.Prelude.{Some, slice_get}
use Rattle.std.specs.Option.{option_map_or}
use Rattle.spec_plant.specs.Listed.{Struct, Enum, NamedType, Structure, Enumeration, is_structure}
use Rattle.spec_plant.specs.Trees.{elem_tree, tree_at, trees_of}
use Rattle.spec_plant.specs.AcceptedTypes.{AreTypes}
use Rattle.spec_plant.specs.Shapes.{elem_at}
use Rattle.spec_plant.proofs.TypeLemmas.{stands_at}
use Rattle.spec_machine.specs.TypesByText.{if_small}

-- as an element it has the tree of that place
pub elem_at-tree : (types : List NamedType) (place : ℕ) → elem_tree (trees_of types) (elem_at types place) ≡ tree_at (trees_of types) place
elem_at-tree types place = go (option_map_or is_structure (slice_get types place) false)
  where
    go : (b : Bool) → elem_tree (trees_of types) (cond b (Struct place) (Enum place)) ≡ tree_at (trees_of types) place
    go true = refl
    go false = refl

-- and it is small enough
pub small_named : (types : List NamedType) (place : ℕ) (t : NamedType) → AreTypes types → slice_get types place ≡ Some t
    → if_small (tree_at (trees_of types) place) ≡ Some (tree_at (trees_of types) place)
small_named types place (Structure name ms) a e = let there = (stands_at types place (Structure name ms) a e).tree in rw there refl
small_named types place (Enumeration name base values) a e =
    let there = (stands_at types place (Enumeration name base values) a e).tree in rw there refl
