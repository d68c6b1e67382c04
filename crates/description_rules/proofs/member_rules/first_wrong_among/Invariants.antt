use Rattle.std.proofs.Common.{◌≡◌, [], map, take}
use Rattle.spec_rules.specs.Places.{first_wrong}
use Rattle.description_table.specs.Views.{member_view}
use Rattle.description_rules.specs.NextMember.{is_right_named}
use Rattle.description_rules.proofs.FirstLemmas.{first_from}
use Rattle.description_rules.proofs.LowerLemmas.{lower_name}
use Rattle.description_rules.proofs.MemberLemmas.{member_name}
use Rattle.description_rules.proofs.member_rules.first_wrong_among.Given as goal

-- those before this one are right, and their names noted
abbrev pub invariant-loop-i : goal.invariant-loop-i
invariant-loop-i l = record {
  first : first_wrong (is_right_named l.names) [] (map member_view l.members) ≡ first_from (is_right_named l.names) member_view l.members l.i;
  noted : l.seen ≡ map (lower_name member_view member_name) (take l.i l.members);
}
