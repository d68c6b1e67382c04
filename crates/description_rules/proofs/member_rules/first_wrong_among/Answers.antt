use Rattle.std.proofs.Common.{[], get_or, take, sym, ◌∙◌}
use Rattle.std.proofs.lemmas.List.{get_or_default}
use Rattle.description_table.specs.Views.{member_view}
use Rattle.description_rules.specs.NextMember.{is_member_alone, is_right_named}
use Rattle.description_rules.proofs.FirstLemmas.{first_from-start, first_from-right, first_from-wrong}
use Rattle.description_rules.proofs.LowerLemmas.{right-lower, noted-lower}
use Rattle.description_rules.proofs.MemberLemmas.{member_name}
use Rattle.description_rules.proofs.member_rules.first_wrong_among.Goals as goal

pub loop-i-init : goal.loop-i-init
loop-i-init c = record { first = first_from-start (is_right_named c.args.names.now) member_view c.args.members.now; noted = c.requires }

pub returns-then-not-branch : goal.returns-then-not-branch
returns-then-not-branch c =
    let names = c.args.names.now in
    let xs = c.args.members.now in
    let i = c.loop-i.i in
    let x = get_or xs i (record
    { name = record { ref_ptr = (0, 0); now = [] }; kind = record { ref_ptr = (0, 0); now = [] }; comment = record { ref_ptr = (0, 0); now = [] } }) in
    let is = get_or_default xs i _ x c.loop-i-test.true in
    sym (first_from-wrong (is_right_named names) member_view xs i x _ c.loop-i-test.true is
    (right-lower member_view member_name (is_member_alone names (member_view x))
    (take i xs) x c.loop-i.seen _ _ c.loop-i.invariant.noted c.in_ok-is_right_member.ensures ∙ c.if-not-branch.true)
    c.loop-i.invariant.first)

pub loop-i-preserved : goal.loop-i-preserved
loop-i-preserved c =
    let names = c.args.names.now in
    let xs = c.args.members.now in
    let i = c.loop-i.i in
    let x = get_or xs i (record
    { name = record { ref_ptr = (0, 0); now = [] }; kind = record { ref_ptr = (0, 0); now = [] }; comment = record { ref_ptr = (0, 0); now = [] } }) in
    let is = get_or_default xs i _ x c.loop-i-test.true in
    record {
      first = first_from-right (is_right_named names) member_view xs i x _ c.loop-i-test.true is
          (right-lower member_view member_name (is_member_alone names (member_view x))
          (take i xs) x c.loop-i.seen _ _ c.loop-i.invariant.noted c.in_ok-is_right_member.ensures ∙ c.if-not-branch.false)
          c.loop-i.invariant.first;
      noted = noted-lower member_view member_name xs i x c.loop-i.seen _ c.loop-i-test.true is
          c.loop-i.invariant.noted (c.in_ok-is_right_member.ensures.noted c.if-not-branch.false);
    }
