-- The members before this one have other names, and end where the next one is looked for.
use Rattle.std.proofs.Common.{◌≡◌, map, drop}
use Rattle.spec_plant.specs.Trees.{trees_of, member_trees}
use Rattle.spec_plant.specs.Sizes.{members_end}
use Rattle.spec_plant.specs.Parts.{member_from}
use Rattle.type_layout.specs.NamedTypes.{types_of, member_of}
use Rattle.type_layout.proofs.parts.structure_member.Given as goal

abbrev pub invariant-loop-member : goal.invariant-loop-member
invariant-loop-member l =
    let known = trees_of (types_of l.types) in
    let all = map member_of l.members in
    let left = member_trees known (drop l.member-index all) in
    (members_end 0 (member_trees known all) ≡ members_end l.end left)
    × (member_from 0 (member_trees known all) l.name ≡ member_from l.end left l.name)
