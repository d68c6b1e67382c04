-- What is written, and the sub entries of the members that are left, are those of all; and so with sizes.
use Rattle.std.proofs.Common.{◌≡◌, ◌+◌, ◌*◌, ◌<◌, ◌≤◌, ◌++◌, max, length, map, drop}
use Rattle.ads_base.specs.Octets.{Extends}
use Rattle.spec_plant.specs.Trees.{trees_of, member_trees}
use Rattle.spec_plant.specs.Sizes.{members_end, greatest_align}
use Rattle.type_layout.specs.NamedTypes.{types_of, member_of}
use Rattle.type_upload.specs.NextMembers.{subs_of}
use Rattle.type_upload.proofs.members.append_members.Given as goal

abbrev pub invariant-loop-member : goal.invariant-loop-member
invariant-loop-member l =
    let types = types_of l.types in
    let all = map member_of l.members in
    let left = drop l.member-index all in
    record {
      within : l.member-index ≤ length l.members;
      written : l.out ++ subs_of types l.laid.end left ≡ l.fn.out ++ subs_of types 0 all;
      begins : Extends l.fn.out l.out;
      short : length l.out ≤ length l.fn.out + 1000 * l.member-index;
      ends : members_end 0 (member_trees (trees_of types) all) ≡ members_end l.laid.end (member_trees (trees_of types) left);
      aligns : greatest_align (member_trees (trees_of types) all) ≡ max l.laid.align (greatest_align (member_trees (trees_of types) left));
      low : 0 < l.laid.align;
    }
