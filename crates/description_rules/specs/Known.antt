-- Types with the extents that the code keeps of them; callers cite `KnownTypes` alone.
use Rattle.std.specs.Prelude.{◌≡◌, ◌+◌, ◌^◌, ◌≤◌, ◌<◌, max, Bool, true, ◌&&◌, nat_le, List, map}
use Rattle.std.specs.List.{list_all}
use Rattle.spec_plant.specs.Listed.{NamedType}
use Rattle.spec_plant.specs.Trees.{trees_of, MemberTrees}
use Rattle.spec_plant.specs.Sizes.{aligned, members_end, greatest_align, greatest_depth}
use Rattle.description_rules.specs.Extents.{TypeExtent, extent_view, extent_of}
use Rattle.description_rules.specs.declared.extents.Extent.{Extent}

-- at most 1,048,576 bytes, an alignment from 1 to 8, and at most 16 structures deep
pub record IsFair (e : Extent) : Type 0 where
  pub size : e.size ≤ 1048576
  pub align : e.align ≤ 8
  pub some_align : 0 < e.align
  pub depth : e.depth ≤ 16

-- the same for an array of at most 1,048,576 such elements
pub record IsFairArray (e : Extent) : Type 0 where
  pub size : e.size ≤ 2 ^ 40
  pub align : e.align ≤ 8
  pub some_align : 0 < e.align
  pub depth : e.depth ≤ 16

abbrev pub is_fair : Extent → Bool
is_fair e = nat_le e.size 1048576 && nat_le e.align 8 && nat_le 1 e.align && nat_le e.depth 16

-- the extents are those of the types
pub record AreKnown (types : List NamedType) (extents : List Extent) : Type 0 where
  pub same : map extent_view extents ≡ map extent_of (trees_of types)
  pub fair : list_all is_fair extents ≡ true

-- the members so far: where the last one ends, their greatest alignment and their greatest depth
pub record IsSoFar (e : Extent) : Type 0 where
  pub size : e.size ≤ 2 ^ 110
  pub align : e.align ≤ 8
  pub some_align : 0 < e.align
  pub depth : e.depth ≤ 16

-- the extent of a structure with these members
pub record IsStructExtent (members : MemberTrees) (e : Extent) : Type 0 where
  pub size : e.size ≡ aligned (members_end 0 members) (greatest_align members)
  pub align : e.align ≡ greatest_align members
  pub depth : e.depth ≡ 1 + greatest_depth members

-- the same for the members so far and these behind them
abbrev pub extent_behind : Extent → MemberTrees → TypeExtent
extent_behind e members = record {
  size = members_end e.size members;
  align = max e.align (greatest_align members);
  depth = max e.depth (greatest_depth members);
}
