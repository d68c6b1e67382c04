use Rattle.std.proofs.Common.{◌≡◌, map, take, drop}
use Rattle.spec_rules.specs.Described.{member_described}
use Rattle.type_layout.specs.NamedTypes.{types_of, member_of}
use Rattle.description_rules.specs.Built.{are_small_members}
use Rattle.description_table.specs.Views.{member_view}
use Rattle.description_rules.proofs.type_building.build_members.Given as goal

-- the members before this one are built and small
abbrev pub invariant-loop-member : goal.invariant-loop-member
invariant-loop-member l = record {
  built : map member_of l.built ≡ map (member_described (types_of l.known.types)) (map member_view (take l.member-index l.members));
  small : are_small_members (map (member_described (types_of l.known.types)) (map member_view l.members))
      ≡ are_small_members (map (member_described (types_of l.known.types)) (map member_view (drop l.member-index l.members)));
}
