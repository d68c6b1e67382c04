use Rattle.spec_plant.specs.Trees.{elem_tree, trees_of}
use Rattle.spec_machine.specs.TypesByText.{if_small}
use Rattle.type_layout.specs.NamedTypes.{types_of}
use Rattle.type_layout.specs.Shapes.{elem_of}
use Rattle.port_device.proofs.TypesPut.{small_elem, put_some}
use Rattle.port_device.proofs.typed.put_one.Goals as goal

pub returns-clause-put : goal.returns-clause-put
returns-clause-put c =
    let types = types_of c.args.types.now in
    let tree = elem_tree (trees_of types) (elem_of c.args.elem) in
    put_some (if_small tree) tree c.args.out.now c.put_elem.new.out (small_elem types (elem_of c.args.elem) c.requires.types c.requires.there)
    c.in_ok-put_elem.ensures.ok
