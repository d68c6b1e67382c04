use Rattle.std.proofs.Common.{◌≡◌, ◌+◌, ◌*◌, List, ◌++◌, length, map, ℕ, ap, sym, ◌∙◌, arith}
use Rattle.std.proofs.lemmas.List.{length-map}
use Rattle.std.specs.Prelude.{flat_map}
use Rattle.spec_formats.specs.TypeUpload.{dimension_of}
use Rattle.type_layout.specs.Shapes.{bound_of, bounds_of}
use Rattle.type_upload.specs.WrittenFields.{fields_meant, numbers, lengths, texts, bound_bytes}
use Rattle.type_upload.proofs.Appends.{four_parts, four_groups, dimensions_meant}
use Rattle.type_upload.proofs.fields.append_fields.Goals as goal

pub returns-clause-ok : goal.returns-clause-ok
returns-clause-ok c =
    let f = c.args.f.now in
    let meant = fields_meant f in
    let dims = f.dims.now in
    let count : length dims ≡ length (map dimension_of (bounds_of dims)) = sym (length-map (bounds_of dims) dimension_of ∙ length-map dims bound_of) in
    let len : ℕ = 45 + length f.name.now + length f.kind.now + length f.comment.now + 8 * length dims + c.args.behind in
    let groups = four_groups meant len c.args.behind c.args.subs (length dims)
    (flat_map bound_bytes dims) (omega (arith, count)) count (dimensions_meant dims) in
    four_parts c.args.out.now (numbers len meant) (lengths (length f.name.now) (length f.kind.now) (length f.comment.now) (length dims) c.args.subs)
    (texts meant) (flat_map bound_bytes dims)
    c.append_numbers.new.out c.append_lengths.new.out c.append_texts.new.out c.append_dimensions.new.out
    c.in_ok-append_numbers.ensures.ok c.in_ok-append_lengths.ensures.ok c.in_ok-append_texts.ensures.ok c.in_ok-append_dimensions.ensures.ok
    ∙ ap (λ (l : List ℕ). c.args.out.now ++ l) groups
