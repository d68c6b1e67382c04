-- The element's number is below their number, so it ends within the array.
use Rattle.std.proofs.Common.{arith, refl, sym}
use Rattle.name_paths.specs.Indexes.{numbers_of_indexes}
use Rattle.spec_plant.specs.Trees.{elem_tree, trees_of}
use Rattle.spec_plant.specs.Sizes.{element_count, type_size}
use Rattle.spec_plant.proofs.PartLemmas.{element_from-lt}
use Rattle.type_layout.specs.Shapes.{elem_of, bounds_of}
use Rattle.type_layout.specs.NamedTypes.{types_of}
use Rattle.type_layout.proofs.Numbers.{is_in_array}
use Rattle.type_layout.proofs.parts.array_element.Goals as goal

pub overflow_mul-result : goal.overflow_mul-result
unfolding type_size
overflow_mul-result c =
    let below = element_from-lt (bounds_of c.args.bounds.now) (numbers_of_indexes c.args.indexes.now) c.in_ok-number.number (sym c.in_ok-number.ensures) in
    let there = is_in_array c.in_ok-number.number (element_count (bounds_of c.args.bounds.now))
    (type_size (elem_tree (trees_of (types_of c.args.types.now)) (elem_of c.args.elem)))
    below c.requires.sized.few_bytes in
    let start = there.start in
    let size = c.elem_extent-size.ensures.size in
    rw size (omega (arith, start))

pub returns-clause-sized : goal.returns-clause-sized
unfolding type_size
returns-clause-sized c =
    let below = element_from-lt (bounds_of c.args.bounds.now) (numbers_of_indexes c.args.indexes.now) c.in_ok-number.number (sym c.in_ok-number.ensures) in
    let there = is_in_array c.in_ok-number.number (element_count (bounds_of c.args.bounds.now))
    (type_size (elem_tree (trees_of (types_of c.args.types.now)) (elem_of c.args.elem)))
    below c.requires.sized.few_bytes in
    record { named = c.requires.sized.named; few_elements = refl; few_bytes = there.size_ }
