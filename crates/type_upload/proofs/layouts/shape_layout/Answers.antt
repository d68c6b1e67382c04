-- An array is as small as its type, so the product fits.
use Rattle.std.proofs.Common.{rules, ◌≤◌, arith}
use Rattle.spec_plant.specs.Sizes.{type_size, type_align}
use Rattle.spec_plant.specs.Trees.{tree_of}
use Rattle.spec_plant.specs.AcceptedTypes.{LIMIT}
use Rattle.type_layout.specs.Shapes.{shape_of_ref}
use Rattle.type_layout.specs.NamedTypes.{types_of}
use Rattle.type_upload.proofs.layouts.shape_layout.Goals as goal

pub overflow_mul-result : goal.overflow_mul-result
unfolding type_size
overflow_mul-result c =
    let few : type_size (tree_of (types_of c.args.types.now) (shape_of_ref c.args.t)) ≤ LIMIT = c.requires.sized.few_bytes in
    let product = rw c.in-Array.is at few in
    let count = c.element_total.ensures in
    let size = c.elem_layout-each.ensures.size_is in
    rw (count, size) (omega (arith, product))

pub returns-in-Array : goal.returns-in-Array
unfolding type_size type_align
returns-in-Array c = search rules
