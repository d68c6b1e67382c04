use Rattle.std.proofs.Common.{◌≡◌, ◌≤◌, ◌<◌, ◌*◌, ◌^◌, map, drop, true}
use Rattle.spec_plant.specs.Trees.{trees_of, member_trees}
use Rattle.spec_rules.specs.Described.{member_described}
use Rattle.type_layout.specs.NamedTypes.{types_of}
use Rattle.description_rules.specs.Built.{are_small_members}
use Rattle.description_rules.specs.Known.{extent_behind}
use Rattle.description_table.specs.Views.{member_view}
use Rattle.description_rules.proofs.structure.struct_extent.Given as goal

-- the members so far and those that are left make the structure
abbrev pub invariant-loop-member : goal.invariant-loop-member
invariant-loop-member l = record {
  whole : extent_behind l.so_far
      (member_trees (trees_of (types_of l.known.types)) (map (member_described (types_of l.known.types)) (map member_view (drop l.member-index l.members))))
      ≡ extent_behind l.initial.so_far
      (member_trees (trees_of (types_of l.known.types)) (map (member_described (types_of l.known.types)) (map member_view l.members)));
  small : are_small_members (map (member_described (types_of l.known.types)) (map member_view (drop l.member-index l.members))) ≡ true;
  size : l.so_far.size ≤ l.member-index * 2 ^ 41;
  align : l.so_far.align ≤ 8;
  some_align : 0 < l.so_far.align;
  depth : l.so_far.depth ≤ 16;
}
