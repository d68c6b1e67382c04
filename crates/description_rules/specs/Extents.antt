-- For private contracts, and cited by no public clause: the extents of types, as the code keeps them.
use Rattle.std.specs.Prelude.{ℕ}
use Rattle.spec_plant.specs.Trees.{TypeTree}
use Rattle.spec_plant.specs.Sizes.{type_size, type_align, type_depth}
use Rattle.description_rules.specs.declared.extents.Extent.{Extent}

-- size, alignment and depth
pub record TypeExtent : Type 0 where
  pub size : ℕ
  pub align : ℕ
  pub depth : ℕ

abbrev pub extent_of : TypeTree → TypeExtent
extent_of tree = record { size = type_size tree; align = type_align tree; depth = type_depth tree }

abbrev pub extent_view : Extent → TypeExtent
extent_view e = record { size = e.size; align = e.align; depth = e.depth }
