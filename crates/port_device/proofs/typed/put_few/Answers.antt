use Rattle.std.proofs.Common.{◌*◌, ◌≤◌, arith}
use Rattle.spec_plant.specs.AcceptedTypes.{LIMIT}
use Rattle.spec_plant.specs.Trees.{ArrayTree, elem_tree, trees_of}
use Rattle.spec_machine.specs.TypesByText.{if_small}
use Rattle.type_layout.specs.NamedTypes.{types_of}
use Rattle.type_layout.specs.Shapes.{elem_of, bounds_of}
use Rattle.port_device.proofs.TypesPut.{sized_elem, sized_array, too_big, is_small, put_none, put_some}
use Rattle.port_device.proofs.typed.put_few.Goals as goal

pub size-each-requires-clause-sized : goal.size-each-requires-clause-sized
size-each-requires-clause-sized c = sized_elem (types_of c.args.types.now) (elem_of c.args.elem) c.requires.types c.requires.there

pub returns-then-count-each-gt-GREATEST-clause-put : goal.returns-then-count-each-gt-GREATEST-clause-put
returns-then-count-each-gt-GREATEST-clause-put c =
    let bounds = bounds_of c.args.bounds.now in
    let tree = elem_tree (trees_of (types_of c.args.types.now)) (elem_of c.args.elem) in
    put_none (if_small (ArrayTree bounds tree)) c.args.out.now
    (too_big bounds tree c.args.count c.size-each.result c.requires.count c.size-each.ensures c.if-count-each-gt-GREATEST.true)

pub put_sized-requires-clause-sized : goal.put_sized-requires-clause-sized
put_sized-requires-clause-sized c =
    let small : c.args.count * c.size-each.result ≤ LIMIT = omega (arith, c.if-count-each-gt-GREATEST.false) in
    sized_array (types_of c.args.types.now) (bounds_of c.args.bounds.now) (elem_of c.args.elem) c.args.count c.size-each.result c.requires.there
    c.requires.count c.size-each.ensures c.requires.few small

pub returns-clause-put : goal.returns-clause-put
returns-clause-put c =
    let bounds = bounds_of c.args.bounds.now in
    let tree = elem_tree (trees_of (types_of c.args.types.now)) (elem_of c.args.elem) in
    let small : c.args.count * c.size-each.result ≤ LIMIT = omega (arith, c.if-count-each-gt-GREATEST.false) in
    put_some (if_small (ArrayTree bounds tree)) (ArrayTree bounds tree) c.args.out.now c.put_sized.new.out
    (is_small bounds tree c.args.count c.size-each.result c.requires.count c.size-each.ensures c.requires.few small) c.in_ok-put_sized.ensures.ok
