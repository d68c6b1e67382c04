-- Each member is sized; the one with the name stands where the members before it end.
use Rattle.std.proofs.Common.{rules, ◌≡◌, true, false, arith, refl, ◌∙◌}
use Rattle.std.specs.Prelude.{bytes_eq}
use Rattle.name_paths.specs.Identifier.{lower}
use Rattle.spec_plant.specs.Sizes.{type_size, type_align, member_start}
use Rattle.spec_plant.specs.Trees.{tree_of}
use Rattle.type_layout.specs.Shapes.{shape_of}
use Rattle.type_layout.specs.NamedTypes.{types_of}
use Rattle.type_layout.proofs.MemberTurns.{member_start-align}
use Rattle.type_layout.proofs.Places.{member_turn, member_found, member_passed, member_missing}
use Rattle.type_layout.proofs.parts.structure_member.Goals as goal

pub type_extent-extent-requires-clause-sized : goal.type_extent-extent-requires-clause-sized
type_extent-extent-requires-clause-sized c =
    let turn = member_turn c.args.types.now c.args.place c.index-types-place.result c.in-Struct.structure c.as_slice-members.result.now
    c.loop-member.member-index c.member-item.result c.loop-member.end c.requires.types c.requires.there c.index-types-place.is c.in-Struct.is
    c.as_slice-members.ensures c.loop-member-test.true c.member-item.is (c.loop-member.invariant.0) in
    rw c.as_ref-kind.ensures turn.sized

pub next_multiple-start-requires-clause-unit : goal.next_multiple-start-requires-clause-unit
next_multiple-start-requires-clause-unit c =
    let turn = member_turn c.args.types.now c.args.place c.index-types-place.result c.in-Struct.structure c.as_slice-members.result.now
    c.loop-member.member-index c.member-item.result c.loop-member.end c.requires.types c.requires.there c.index-types-place.is c.in-Struct.is
    c.as_slice-members.ensures c.loop-member-test.true c.member-item.is (c.loop-member.invariant.0) in
    let align = c.type_extent-extent.ensures.align in
    rw (align, c.as_ref-kind.ensures) turn.low

pub next_multiple-start-requires-clause-fits : goal.next_multiple-start-requires-clause-fits
next_multiple-start-requires-clause-fits c =
    let turn = member_turn c.args.types.now c.args.place c.index-types-place.result c.in-Struct.structure c.as_slice-members.result.now
    c.loop-member.member-index c.member-item.result c.loop-member.end c.requires.types c.requires.there c.index-types-place.is c.in-Struct.is
    c.as_slice-members.ensures c.loop-member-test.true c.member-item.is (c.loop-member.invariant.0) in
    let align = c.type_extent-extent.ensures.align in
    let high = turn.high in
    let begins = turn.begins in
    rw (align, c.as_ref-kind.ensures) (omega (arith, high, begins))

pub returns-then-is_same_name-clause-part : goal.returns-then-is_same_name-clause-part
returns-then-is_same_name-clause-part c =
    let tree = tree_of (types_of c.args.types.now) (shape_of c.member-item.result.kind) in
    let start = member_start-align c.loop-member.end tree in
    let align : c.type_extent-extent.result.align ≡ type_align tree = rw c.as_ref-kind.ensures at c.type_extent-extent.ensures.align in
    let size : c.type_extent-extent.result.size ≡ type_size tree = rw c.as_ref-kind.ensures at c.type_extent-extent.ensures.size in
    let at : c.next_multiple-start.result ≡ member_start c.loop-member.end tree = cc in
    let same : bytes_eq (lower c.member-item.result.name) (lower c.args.name.now) ≡ true = search rules in
    let found = member_found c.args.types.now c.args.place c.index-types-place.result c.in-Struct.structure c.as_slice-members.result.now
    c.loop-member.member-index c.member-item.result c.loop-member.end c.args.name.now c.requires.types c.requires.there c.index-types-place.is c.in-Struct.is
    c.as_slice-members.ensures c.loop-member-test.true c.member-item.is (c.loop-member.invariant.1) same in
    rw (found, at, c.as_ref-kind.ensures) refl

pub returns-then-is_same_name-clause-sized : goal.returns-then-is_same_name-clause-sized
returns-then-is_same_name-clause-sized c =
    let turn = member_turn c.args.types.now c.args.place c.index-types-place.result c.in-Struct.structure c.as_slice-members.result.now
    c.loop-member.member-index c.member-item.result c.loop-member.end c.requires.types c.requires.there c.index-types-place.is c.in-Struct.is
    c.as_slice-members.ensures c.loop-member-test.true c.member-item.is (c.loop-member.invariant.0) in
    rw c.as_ref-kind.ensures turn.sized

pub overflow_add-end : goal.overflow_add-end
overflow_add-end c =
    let turn = member_turn c.args.types.now c.args.place c.index-types-place.result c.in-Struct.structure c.as_slice-members.result.now
    c.loop-member.member-index c.member-item.result c.loop-member.end c.requires.types c.requires.there c.index-types-place.is c.in-Struct.is
    c.as_slice-members.ensures c.loop-member-test.true c.member-item.is (c.loop-member.invariant.0) in
    let tree = tree_of (types_of c.args.types.now) (shape_of c.member-item.result.kind) in
    let start = member_start-align c.loop-member.end tree in
    let align : c.type_extent-extent.result.align ≡ type_align tree = rw c.as_ref-kind.ensures at c.type_extent-extent.ensures.align in
    let size : c.type_extent-extent.result.size ≡ type_size tree = rw c.as_ref-kind.ensures at c.type_extent-extent.ensures.size in
    let at : c.next_multiple-start.result ≡ member_start c.loop-member.end tree = cc in
    let ends = turn.ends in
    omega (arith, ends, size, at)

pub loop-member-preserved : goal.loop-member-preserved
loop-member-preserved c =
    let turn = member_turn c.args.types.now c.args.place c.index-types-place.result c.in-Struct.structure c.as_slice-members.result.now
    c.loop-member.member-index c.member-item.result c.loop-member.end c.requires.types c.requires.there c.index-types-place.is c.in-Struct.is
    c.as_slice-members.ensures c.loop-member-test.true c.member-item.is (c.loop-member.invariant.0) in
    let tree = tree_of (types_of c.args.types.now) (shape_of c.member-item.result.kind) in
    let start = member_start-align c.loop-member.end tree in
    let align : c.type_extent-extent.result.align ≡ type_align tree = rw c.as_ref-kind.ensures at c.type_extent-extent.ensures.align in
    let size : c.type_extent-extent.result.size ≡ type_size tree = rw c.as_ref-kind.ensures at c.type_extent-extent.ensures.size in
    let at : c.next_multiple-start.result ≡ member_start c.loop-member.end tree = cc in
    let ends = c.loop-member.invariant.0 in
    let next = turn.next in
    let other : bytes_eq (lower c.member-item.result.name) (lower c.args.name.now) ≡ false = search rules in
    let passed = member_passed c.args.types.now c.as_slice-members.result.now c.loop-member.member-index c.member-item.result c.loop-member.end c.args.name.now
    c.loop-member-test.true c.member-item.is other in
    (rw (at, size) (ends ∙ next), rw (at, size) (c.loop-member.invariant.1 ∙ passed))

pub returns-clause-part : goal.returns-clause-part
returns-clause-part c =
    let missing = member_missing c.args.types.now c.args.place c.index-types-place.result c.in-Struct.structure c.as_slice-members.result.now
    c.loop-member.member-index c.loop-member.end c.args.name.now c.requires.types c.requires.there c.index-types-place.is c.in-Struct.is
    c.as_slice-members.ensures c.loop-member-test.false (c.loop-member.invariant.1) in
    rw missing refl
