-- How types lie in memory, and their ids, as the code keeps them. No public clause cites this file.
use Rattle.std.specs.Prelude.{◌≡◌, ℕ, ◌+◌, List, Some, slice_get}
use Rattle.spec_plant.specs.Listed.{Elem, Plain, Text, Struct, Enum, NamedType}
use Rattle.spec_plant.specs.Trees.{TypeTree, tree_at, trees_of}
use Rattle.spec_plant.specs.Sizes.{type_size, type_align}
use Rattle.spec_plant.specs.Entries.{type_id}
use Rattle.type_upload.specs.declared.layouts.Layout.{Layout}

-- how many types of the list an element needs
abbrev pub reach : Elem → ℕ
reach (Plain kind) = 0
reach (Text n) = 0
reach (Struct place) = place + 1
reach (Enum place) = place + 1

-- this is how the type lies in memory, and its id
pub record HasLayout (tree : TypeTree) (l : Layout) : Type 0 where
  pub size_is : l.size ≡ type_size tree
  pub align_is : l.align ≡ type_align tree
  pub id_is : l.type_id ≡ type_id tree

-- these are the layouts of the first types of the list
pub record AreKnown (types : List NamedType) (known : List Layout) : Type 0 where
  pub each : (place : ℕ) (l : Layout) → slice_get known place ≡ Some l → HasLayout (tree_at (trees_of types) place) l
