-- The recursion falls by the places of named types; the loop keeps where the members end and their greatest alignment.
use Rattle.std.proofs.Common.{◌≡◌, ◌+◌, ◌*◌, ◌<◌, max, map, drop}
use Rattle.spec_plant.specs.Trees.{trees_of, member_trees}
use Rattle.spec_plant.specs.Sizes.{members_end, greatest_align}
use Rattle.spec_plant.specs.AcceptedTypes.{elem_within}
use Rattle.spec_plant.proofs.TypeLemmas.{rank}
use Rattle.type_layout.specs.Shapes.{elem_of, shape_of_ref}
use Rattle.type_layout.specs.NamedTypes.{types_of, member_of}
use Rattle.type_layout.proofs.extent.+extent.Given as goal

abbrev pub decreases-type_extent : goal.decreases-type_extent
decreases-type_extent l = 3 * rank (elem_within (shape_of_ref l.t)) + 2

abbrev pub decreases-elem_extent : goal.decreases-elem_extent
decreases-elem_extent l = 3 * rank (elem_of l.elem) + 1

abbrev pub decreases-struct_extent : goal.decreases-struct_extent
decreases-struct_extent l = 3 * l.place + 3

abbrev pub invariant-struct_extent-loop-member : goal.invariant-struct_extent-loop-member
invariant-struct_extent-loop-member l =
    let known = trees_of (types_of l.types) in
    let all = map member_of l.members in
    let left = member_trees known (drop l.member-index all) in
    (members_end 0 (member_trees known all) ≡ members_end l.end left)
    × (greatest_align (member_trees known all) ≡ max l.greatest (greatest_align left))
    × (0 < l.greatest)
