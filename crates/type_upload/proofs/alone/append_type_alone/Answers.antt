-- What is written are the fields of the type; no sub entries follow.
use Rattle.std.proofs.Common.{◌≡◌, map, ap, ◌∙◌}
use Rattle.spec_plant.specs.Spelling.{type_text}
use Rattle.spec_plant.specs.Trees.{tree_of}
use Rattle.spec_formats.specs.TypeUpload.{dimension_of, dimensions_of}
use Rattle.type_layout.specs.NamedTypes.{types_of}
use Rattle.type_layout.specs.Shapes.{shape_of_ref, bounds_of}
use Rattle.type_upload.proofs.LayoutLemmas.{dimensions_of-shape}
use Rattle.type_upload.proofs.EntryLemmas.{alone_written}
use Rattle.type_upload.proofs.alone.append_type_alone.Goals as goal

pub returns-clause-ok : goal.returns-clause-ok
returns-clause-ok c =
    let types = types_of c.args.types.now in
    let shape = shape_of_ref c.args.t in
    let text : c.type_text.new.out ≡ type_text (tree_of types shape) = rw c.new-text.ensures at c.in_ok-type_text.ensures.ok in
    let dims : map dimension_of (bounds_of c.dims_of.result.now) ≡ dimensions_of (tree_of types shape) =
    ap (map dimension_of) c.dims_of.ensures ∙ dimensions_of-shape types shape c.requires.types c.requires.sized in
    alone_written (tree_of types shape) c.size-bytes.result c.args.id c.as_slice.result.now c.args.kind.now (map dimension_of (bounds_of c.dims_of.result.now))
    c.args.out.now c.append_fields.new.out c.size-bytes.ensures (c.as_slice.ensures ∙ text) dims c.in_ok-append_fields.ensures.ok
