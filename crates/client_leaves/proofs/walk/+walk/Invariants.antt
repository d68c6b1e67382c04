-- The recursion falls by the depth, and at one depth from members to their elements.
use Rattle.std.proofs.Common.{◌+◌, ◌*◌, map, drop}
use Rattle.spec_client.specs.LeafTypes.{is_sound_elem}
use Rattle.spec_client.specs.Leaves.{leaves_of_elem, leaves_of_member}
use Rattle.type_layout.specs.ReadTexts.{elem_text_of}
use Rattle.client_leaves.specs.Kept.{leaf_kept}
use Rattle.client_leaves.specs.Table.{member_kept, types_kept}
use Rattle.client_leaves.proofs.WalkLemmas.{ElementsSoFar, MembersWalked}
use Rattle.client_leaves.proofs.walk.+walk.Given as goal

abbrev pub decreases-structure_leaves : goal.decreases-structure_leaves
decreases-structure_leaves l = 6 * l.depth + 5

abbrev pub decreases-member_leaves : goal.decreases-member_leaves
decreases-member_leaves l = 6 * l.depth + 4

abbrev pub decreases-text_leaves : goal.decreases-text_leaves
decreases-text_leaves l = 6 * l.depth + 3

abbrev pub decreases-array_leaves : goal.decreases-array_leaves
decreases-array_leaves l = 6 * l.depth + 2

abbrev pub decreases-elem_leaves : goal.decreases-elem_leaves
decreases-elem_leaves l = 6 * l.depth + 1

abbrev pub decreases-type_leaves : goal.decreases-type_leaves
decreases-type_leaves l = 6 * l.depth

abbrev pub invariant-array_leaves-elements : goal.invariant-array_leaves-elements
invariant-array_leaves-elements l =
    let types = types_kept l.types in
    let elem = elem_text_of l.text.text.elem in
    ElementsSoFar (leaves_of_elem l.depth types elem) (is_sound_elem l.depth types elem) l.size l.place l.path-index l.at l.paths
    (map leaf_kept l.initial.leaves) (map leaf_kept l.leaves)

abbrev pub invariant-structure_leaves-members : goal.invariant-structure_leaves-members
invariant-structure_leaves-members l =
    let types = types_kept l.types in
    MembersWalked (is_sound_elem l.depth types) (leaves_of_member (leaves_of_elem l.depth types) types l.path l.place) types l.size l.end
    (map member_kept l.members) (map member_kept (drop l.member-index l.members)) (map leaf_kept l.initial.leaves) (map leaf_kept l.leaves)
