-- Size and alignment as the code finds them.
use Rattle.std.specs.Prelude.{◌≡◌, ℕ, ◌<◌, List, length, map, slice_index_or}
use Rattle.spec_plant.specs.Listed.{NamedType}
use Rattle.spec_plant.specs.Trees.{TypeTree, tree_at, trees_of}
use Rattle.spec_plant.specs.Sizes.{type_size, type_align}
use Rattle.type_layout.specs.declared.extent.Extent.{Extent}

pub record HasExtent (tree : TypeTree) (extent : Extent) : Type 0 where
  pub size : extent.size ≡ type_size tree
  pub align : extent.align ≡ type_align tree

-- the size and the alignment of a type
abbrev pub extent_of : TypeTree → Extent
extent_of tree = record { size = type_size tree; align = type_align tree }

-- those of each named type of a list
abbrev pub extents_of : List NamedType → List Extent
extents_of types = map extent_of (trees_of types)

-- these are those of the first types of a list
abbrev pub AreExtents : List NamedType → List Extent → Type 0
AreExtents types known = (p : ℕ) (d : Extent) → p < length known → HasExtent (tree_at (trees_of types) p) (slice_index_or known p d)
