-- The member ends within the limit; what is written of it is its sub entry.
use Rattle.std.proofs.Common.{◌≡◌, map, ap, ◌∙◌, arith}
use Rattle.spec_plant.specs.Listed.{Shape}
use Rattle.spec_plant.specs.Trees.{tree_of}
use Rattle.spec_plant.specs.Sizes.{type_size, type_align}
use Rattle.spec_plant.specs.Spelling.{type_text}
use Rattle.spec_plant.proofs.SizeLemmas.{type_align-bounds}
use Rattle.spec_formats.specs.TypeUpload.{dimension_of, dimensions_of}
use Rattle.type_layout.specs.Shapes.{shape_of, shape_of_ref, bounds_of}
use Rattle.type_layout.specs.NamedTypes.{types_of, member_of}
use Rattle.type_upload.specs.NextMembers.{bounds_within}
use Rattle.type_upload.proofs.LayoutLemmas.{names_are_there, dimensions_of-shape}
use Rattle.type_upload.proofs.MemberLemmas.{stands_behind, sub_written}
use Rattle.type_upload.proofs.members.append_member.Goals as goal

pub next_multiple-offset-requires-clause-unit : goal.next_multiple-offset-requires-clause-unit
next_multiple-offset-requires-clause-unit c =
    let low = (type_align-bounds (tree_of (types_of c.args.types.now) (shape_of_ref c.as_ref-t.result))).0 in
    let align = c.shape_layout-layout.ensures.align_is in
    omega (arith, low, align)

pub next_multiple-offset-requires-clause-fits : goal.next_multiple-offset-requires-clause-fits
next_multiple-offset-requires-clause-fits c =
    let high = (type_align-bounds (tree_of (types_of c.args.types.now) (shape_of_ref c.as_ref-t.result))).1 in
    let align = c.shape_layout-layout.ensures.align_is in
    let begins = c.requires.next.begins in
    omega (arith, high, align, begins)

pub type_text-requires : goal.type_text-requires
type_text-requires c = names_are_there (types_of c.args.types.now) (shape_of_ref c.as_ref-t.result) (rw c.as_ref-t.ensures c.requires.next.sized)

pub overflow_add-result : goal.overflow_add-result
overflow_add-result c =
    let tree = tree_of (types_of c.args.types.now) (shape_of c.args.member.now.kind) in
    let size : c.shape_layout-layout.result.size ≡ type_size tree = rw c.as_ref-t.ensures at c.shape_layout-layout.ensures.size_is in
    let align : c.shape_layout-layout.result.align ≡ type_align tree = rw c.as_ref-t.ensures at c.shape_layout-layout.ensures.align_is in
    let start = stands_behind c.args.before.end c.shape_layout-layout.result.align c.next_multiple-offset.result tree align c.next_multiple-offset.ensures in
    let ends = c.requires.next.ends in
    omega (arith, ends, size, start)

pub returns-clause-ok : goal.returns-clause-ok
returns-clause-ok c =
    let types = types_of c.args.types.now in
    let m = member_of c.args.member.now in
    let tree = tree_of types m.shape in
    let size : c.shape_layout-layout.result.size ≡ type_size tree = rw c.as_ref-t.ensures at c.shape_layout-layout.ensures.size_is in
    let align : c.shape_layout-layout.result.align ≡ type_align tree = rw c.as_ref-t.ensures at c.shape_layout-layout.ensures.align_is in
    let start = stands_behind c.args.before.end c.shape_layout-layout.result.align c.next_multiple-offset.result tree align c.next_multiple-offset.ensures in
    let text : c.type_text.new.out ≡ type_text tree = rw (c.new-kind.ensures, c.as_ref-t.ensures) at c.in_ok-type_text.ensures.ok in
    let dims : map dimension_of (bounds_of c.dims_of.result.now) ≡ dimensions_of tree =
    ap (map dimension_of) (c.dims_of.ensures ∙ ap (λ (s : Shape). bounds_within s) c.as_ref-t.ensures)
    ∙ dimensions_of-shape types m.shape c.requires.types c.requires.next.sized in
    sub_written types m c.args.before.end c.shape_layout-layout.result.size c.next_multiple-offset.result c.shape_layout-layout.result.type_id
    c.as_slice.result.now c.as_slice-2.result.now c.as_slice-3.result.now
    (map dimension_of (bounds_of c.dims_of.result.now)) c.args.out.now c.append_fields.new.out
    size start (rw c.as_ref-t.ensures at c.shape_layout-layout.ensures.id_is) c.as_slice.ensures (c.as_slice-2.ensures ∙ text) c.as_slice-3.ensures dims
    c.in_ok-append_fields.ensures.ok

pub returns-clause-laid : goal.returns-clause-laid
returns-clause-laid c =
    let tree = tree_of (types_of c.args.types.now) (shape_of c.args.member.now.kind) in
    let size : c.shape_layout-layout.result.size ≡ type_size tree = rw c.as_ref-t.ensures at c.shape_layout-layout.ensures.size_is in
    let align : c.shape_layout-layout.result.align ≡ type_align tree = rw c.as_ref-t.ensures at c.shape_layout-layout.ensures.align_is in
    let start = stands_behind c.args.before.end c.shape_layout-layout.result.align c.next_multiple-offset.result tree align c.next_multiple-offset.ensures in
    record { end_is = omega (arith, start, size); align_is = rw align at c.max.ensures }
