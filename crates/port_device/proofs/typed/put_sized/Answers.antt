use Rattle.std.proofs.Common.{◌≡◌, ◌∙◌}
use Rattle.spec_plant.specs.Listed.{One}
use Rattle.spec_plant.specs.Spelling.{type_text}
use Rattle.spec_plant.specs.Trees.{ArrayTree, elem_tree, tree_of, trees_of}
use Rattle.spec_plant.proofs.TextLengths.{three_bounds}
use Rattle.spec_formats.specs.TypeEntry.{type_bytes}
use Rattle.type_layout.specs.NamedTypes.{types_of}
use Rattle.type_layout.specs.Shapes.{elem_of, bounds_of}
use Rattle.type_upload.specs.Alone.{entry_alone}
use Rattle.port_device.specs.TypesPut.{put_bytes}
use Rattle.port_device.proofs.TypesPut.{short_elem, short_array, written_array, ok_as}
use Rattle.port_device.proofs.typed.put_sized.Goals as goal

pub put_type_alone-requires-clause-text : goal.put_type_alone-requires-clause-text
put_type_alone-requires-clause-text c =
    short_array (types_of c.args.types.now) (bounds_of c.args.bounds.now) (elem_of c.args.elem) c.requires.types c.requires.sized.named c.requires.bounds

pub put_type_alone-requires-clause-few : goal.put_type_alone-requires-clause-few
put_type_alone-requires-clause-few c = (three_bounds (bounds_of c.args.bounds.now) c.requires.bounds).0

pub put_type_alone-requires-clause-kind : goal.put_type_alone-requires-clause-kind
put_type_alone-requires-clause-kind c =
    let types = types_of c.args.types.now in
    let text : c.as_slice.result.now ≡ type_text (tree_of types (One (elem_of c.args.elem))) =
    c.as_slice.ensures ∙ (rw c.new-kind.ensures at c.in_ok-type_text.ensures.ok) in
    rw text (short_elem types (elem_of c.args.elem) c.requires.types c.requires.sized.named)

pub returns-clause-ok : goal.returns-clause-ok
returns-clause-ok c =
    let types = types_of c.args.types.now in
    let bounds = bounds_of c.args.bounds.now in
    let tree = elem_tree (trees_of types) (elem_of c.args.elem) in
    let text : c.as_slice.result.now ≡ type_text tree = c.as_slice.ensures ∙ (rw c.new-kind.ensures at c.in_ok-type_text.ensures.ok) in
    ok_as c.put_type_alone.result c.args.out.now c.put_type_alone.new.out
    (type_bytes (entry_alone (ArrayTree bounds tree) c.elem_id-id.result c.as_slice.result.now)) (put_bytes (ArrayTree bounds tree))
    (written_array bounds tree c.elem_id-id.result c.as_slice.result.now c.elem_id-id.ensures text) c.put_type_alone.ensures.ok
