-- The first member with the name, or none.
use Rattle.std.proofs.Common.{rules, ◌≡◌, true, false, sym, ◌∙◌}
use Rattle.std.specs.Prelude.{bytes_eq}
use Rattle.name_paths.specs.Identifier.{lower}
use Rattle.symbol_table.proofs.MemberTexts.{text_in, among_found, among_passed, among_missing}
use Rattle.symbol_table.proofs.members.structure_member.Goals as goal

pub returns-then-is_same_name : goal.returns-then-is_same_name
returns-then-is_same_name c =
    let members = c.as_slice-member-items.result.now in
    let i = c.loop-member.member-index in
    let same : bytes_eq (lower c.member-item.result.name) (lower c.args.name.now) ≡ true = search rules in
    let whole = text_in c.args.types.now c.args.place c.index-types-place.result c.in-Struct.structure members
    c.args.name.now c.requires.types c.requires.there c.index-types-place.is c.in-Struct.is c.as_slice-member-items.ensures in
    let found = among_found members i c.member-item.result c.args.name.now c.loop-member-test.true c.member-item.is same in
    sym (whole ∙ c.loop-member.invariant ∙ found)

pub loop-member-preserved : goal.loop-member-preserved
loop-member-preserved c =
    let members = c.as_slice-member-items.result.now in
    let i = c.loop-member.member-index in
    let other : bytes_eq (lower c.member-item.result.name) (lower c.args.name.now) ≡ false = search rules in
    c.loop-member.invariant ∙ among_passed members i c.member-item.result c.args.name.now c.loop-member-test.true c.member-item.is other

pub returns : goal.returns
returns c =
    let members = c.as_slice-member-items.result.now in
    let whole = text_in c.args.types.now c.args.place c.index-types-place.result c.in-Struct.structure members
    c.args.name.now c.requires.types c.requires.there c.index-types-place.is c.in-Struct.is c.as_slice-member-items.ensures in
    let missing = among_missing members c.loop-member.member-index c.args.name.now c.loop-member-test.false in
    sym (whole ∙ c.loop-member.invariant ∙ missing)
