-- Each member is sized and names earlier types, so the recursion falls and all numbers fit; what is left of the members goes on from where they end.
use Rattle.std.proofs.Common.{rules, ◌≡◌, ◌≤◌, map, arith, refl, ◌∙◌}
use Rattle.spec_plant.specs.Sizes.{type_size, type_align, member_start}
use Rattle.spec_plant.specs.Trees.{trees_of, tree_of, member_trees}
use Rattle.spec_plant.specs.AcceptedTypes.{LIMIT, elem_within}
use Rattle.spec_plant.proofs.SizeLemmas.{greatest_align-bounds}
use Rattle.spec_plant.proofs.TypeLemmas.{rank}
use Rattle.type_layout.specs.Shapes.{shape_of, shape_of_ref}
use Rattle.type_layout.specs.NamedTypes.{types_of, member_of}
use Rattle.type_layout.proofs.MemberTurns.{member_start-align}
use Rattle.type_layout.proofs.Places.{member_turn, is_whole}
use Rattle.type_layout.proofs.extent.+extent.Goals as goal

pub elem_extent-returns-in-Plain : goal.elem_extent-returns-in-Plain
unfolding type_size type_align
elem_extent-returns-in-Plain t c = search rules

pub elem_extent-returns-in-Text : goal.elem_extent-returns-in-Text
unfolding type_size type_align
elem_extent-returns-in-Text t c = search rules

pub struct_extent-loop-member-init : goal.struct_extent-loop-member-init
struct_extent-loop-member-init t c =
    let low = (greatest_align-bounds (member_trees (trees_of (types_of c.args.types.now)) (map member_of c.as_slice-members.result.now))).0 in
    (refl, omega (arith, low), omega arith)

pub struct_extent-type_extent-extent-requires : goal.struct_extent-type_extent-extent-requires
struct_extent-type_extent-extent-requires t c =
    let turn = member_turn c.args.types.now c.args.place c.index-types-place.result c.in-Struct.structure c.as_slice-members.result.now
    c.loop-member.member-index c.member-item.result c.loop-member.end c.requires.types c.requires.there c.index-types-place.is c.in-Struct.is
    c.as_slice-members.ensures c.loop-member-test.true c.member-item.is (c.loop-member.invariant.0) in
    let earlier : rank (elem_within (shape_of_ref c.as_ref.result)) ≤ c.args.place = rw c.as_ref.ensures turn.earlier in
    (omega (arith, earlier, c.decreases), (c.requires.types, (c.requires.known, rw c.as_ref.ensures turn.sized)))

pub struct_extent-next_multiple-requires-clause-unit : goal.struct_extent-next_multiple-requires-clause-unit
struct_extent-next_multiple-requires-clause-unit t c =
    let turn = member_turn c.args.types.now c.args.place c.index-types-place.result c.in-Struct.structure c.as_slice-members.result.now
    c.loop-member.member-index c.member-item.result c.loop-member.end c.requires.types c.requires.there c.index-types-place.is c.in-Struct.is
    c.as_slice-members.ensures c.loop-member-test.true c.member-item.is (c.loop-member.invariant.0) in
    let align = c.type_extent-extent.ensures.align in
    rw (align, c.as_ref.ensures) turn.low

pub struct_extent-next_multiple-requires-clause-fits : goal.struct_extent-next_multiple-requires-clause-fits
struct_extent-next_multiple-requires-clause-fits t c =
    let turn = member_turn c.args.types.now c.args.place c.index-types-place.result c.in-Struct.structure c.as_slice-members.result.now
    c.loop-member.member-index c.member-item.result c.loop-member.end c.requires.types c.requires.there c.index-types-place.is c.in-Struct.is
    c.as_slice-members.ensures c.loop-member-test.true c.member-item.is (c.loop-member.invariant.0) in
    let align = c.type_extent-extent.ensures.align in
    let high = turn.high in
    let begins = turn.begins in
    rw (align, c.as_ref.ensures) (omega (arith, high, begins))

pub struct_extent-overflow_add-end : goal.struct_extent-overflow_add-end
struct_extent-overflow_add-end t c =
    let turn = member_turn c.args.types.now c.args.place c.index-types-place.result c.in-Struct.structure c.as_slice-members.result.now
    c.loop-member.member-index c.member-item.result c.loop-member.end c.requires.types c.requires.there c.index-types-place.is c.in-Struct.is
    c.as_slice-members.ensures c.loop-member-test.true c.member-item.is (c.loop-member.invariant.0) in
    let tree = tree_of (types_of c.args.types.now) (shape_of c.member-item.result.kind) in
    let ends = turn.ends in
    let start = member_start-align c.loop-member.end tree in
    let align : c.type_extent-extent.result.align ≡ type_align tree = rw c.as_ref.ensures at c.type_extent-extent.ensures.align in
    let size : c.type_extent-extent.result.size ≡ type_size tree = rw c.as_ref.ensures at c.type_extent-extent.ensures.size in
    let at : c.next_multiple.result ≡ member_start c.loop-member.end tree = cc in
    omega (arith, ends, size, at)

pub struct_extent-loop-member-preserved : goal.struct_extent-loop-member-preserved
struct_extent-loop-member-preserved t c =
    let turn = member_turn c.args.types.now c.args.place c.index-types-place.result c.in-Struct.structure c.as_slice-members.result.now
    c.loop-member.member-index c.member-item.result c.loop-member.end c.requires.types c.requires.there c.index-types-place.is c.in-Struct.is
    c.as_slice-members.ensures c.loop-member-test.true c.member-item.is (c.loop-member.invariant.0) in
    let tree = tree_of (types_of c.args.types.now) (shape_of c.member-item.result.kind) in
    let start = member_start-align c.loop-member.end tree in
    let align : c.type_extent-extent.result.align ≡ type_align tree = rw c.as_ref.ensures at c.type_extent-extent.ensures.align in
    let size : c.type_extent-extent.result.size ≡ type_size tree = rw c.as_ref.ensures at c.type_extent-extent.ensures.size in
    let at : c.next_multiple.result ≡ member_start c.loop-member.end tree = cc in
    let aligns = turn.aligns in
    let so_far = c.loop-member.invariant.1 in
    let low = c.loop-member.invariant.2 in
    let ends = c.loop-member.invariant.0 in
    let next = turn.next in
    (rw (at, size) (ends ∙ next), omega (arith, aligns, so_far, align), omega (arith, low))

pub struct_extent-next_multiple-requires-2-clause-fits : goal.struct_extent-next_multiple-requires-2-clause-fits
struct_extent-next_multiple-requires-2-clause-fits t c =
    let whole = is_whole c.args.types.now c.args.place c.index-types-place.result c.in-Struct.structure c.as_slice-members.result.now
    c.loop-member.member-index c.loop-member.end c.loop-member.greatest c.requires.types c.requires.there c.index-types-place.is c.in-Struct.is
    c.as_slice-members.ensures c.loop-member-test.false (c.loop-member.invariant.0) (c.loop-member.invariant.1) (c.loop-member.invariant.2) in
    let ends = whole.ends in
    let high = whole.high in
    omega (arith, ends, high)

pub struct_extent-returns : goal.struct_extent-returns
struct_extent-returns t c =
    let whole = is_whole c.args.types.now c.args.place c.index-types-place.result c.in-Struct.structure c.as_slice-members.result.now
    c.loop-member.member-index c.loop-member.end c.loop-member.greatest c.requires.types c.requires.there c.index-types-place.is c.in-Struct.is
    c.as_slice-members.ensures c.loop-member-test.false (c.loop-member.invariant.0) (c.loop-member.invariant.1) (c.loop-member.invariant.2) in
    record { size = c.next_multiple-2.ensures ∙ whole.size; align = whole.align }

pub type_extent-overflow_mul-result : goal.type_extent-overflow_mul-result
unfolding type_size
type_extent-overflow_mul-result t c =
    let few : type_size (tree_of (types_of c.args.types.now) (shape_of_ref c.args.t)) ≤ LIMIT = c.requires.sized.few_bytes in
    let product = rw c.in-Array.is at few in
    let count = c.element_total.ensures in
    let size = c.elem_extent-each.ensures.size in
    rw (count, size) (omega (arith, product))

pub type_extent-returns-in-Array : goal.type_extent-returns-in-Array
unfolding type_size type_align
type_extent-returns-in-Array t c = search rules
