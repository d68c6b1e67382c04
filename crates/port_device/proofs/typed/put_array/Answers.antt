use Rattle.std.proofs.Common.{◌≡◌, ◌≤◌, map, sym, ◌∙◌, ap, subst, true, arith, List}
use Rattle.std.proofs.lemmas.Bool.{le-leb}
use Rattle.spec_plant.specs.Listed.{Bound}
use Rattle.spec_plant.specs.Sizes.{element_count}
use Rattle.spec_plant.specs.AcceptedTypes.{LIMIT, are_bounds}
use Rattle.spec_plant.specs.Trees.{ArrayTree, elem_tree, trees_of}
use Rattle.spec_plant.specs.Shapes.{bound_between}
use Rattle.spec_machine.specs.TypesByText.{if_small}
use Rattle.type_layout.specs.NamedTypes.{types_of}
use Rattle.type_layout.specs.Shapes.{elem_of, bounds_of}
use Rattle.port_device.specs.TypesPut.{ends_read, tree_with}
use Rattle.port_device.proofs.TypesPut.{array_with, bounds_fine, too_many, put_none, put_along}
use Rattle.port_device.proofs.typed.put_array.Goals as goal

pub returns-then-count-gt-GREATEST-clause-put : goal.returns-then-count-gt-GREATEST-clause-put
returns-then-count-gt-GREATEST-clause-put c =
    let t = c.args.t.now in
    let bounds = map bound_between (ends_read t) in
    let tree = elem_tree (trees_of (types_of c.args.types.now)) (elem_of c.args.elem) in
    put_none (if_small (tree_with (ends_read t) tree)) c.args.out.now
    (ap if_small (array_with t tree c.requires.array)
    ∙ too_many bounds tree c.element_count-count.result c.element_count-count.ensures.count c.if-count-gt-GREATEST.true)

pub put_bounds-requires-clause-small : goal.put_bounds-requires-clause-small
put_bounds-requires-clause-small c =
    let few : c.element_count-count.result ≤ LIMIT = omega (arith, c.if-count-gt-GREATEST.false) in
    le-leb (element_count (map bound_between (ends_read c.args.t.now))) LIMIT (subst (λ n. n ≤ LIMIT) c.element_count-count.ensures.count few)

pub put_few-requires-clause-bounds : goal.put_few-requires-clause-bounds
put_few-requires-clause-bounds c =
    let P : List Bound → Type 0 = λ bs. are_bounds bs ≡ true in
    subst P (sym (ap bounds_of c.as_slice.ensures ∙ c.in_ok-put_bounds.ensures)) (bounds_fine c.args.t.now c.requires.array c.requires.ends)

pub put_few-requires-clause-count : goal.put_few-requires-clause-count
put_few-requires-clause-count c =
    c.element_count-count.ensures.count ∙ sym (ap (λ bs. element_count bs) (ap bounds_of c.as_slice.ensures ∙ c.in_ok-put_bounds.ensures))

pub returns-clause-put : goal.returns-clause-put
returns-clause-put c =
    let t = c.args.t.now in
    let tree = elem_tree (trees_of (types_of c.args.types.now)) (elem_of c.args.elem) in
    let same = ap bounds_of c.as_slice.ensures ∙ c.in_ok-put_bounds.ensures in
    put_along (if_small (ArrayTree (bounds_of c.as_slice.result.now) tree)) (if_small (tree_with (ends_read t) tree)) c.put_few.result
    c.args.out.now c.put_few.new.out
    (ap if_small (array_with t tree c.requires.array) ∙ sym (ap (λ bs. if_small (ArrayTree bs tree)) same)) c.put_few.ensures.put
