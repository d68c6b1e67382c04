use Rattle.std.proofs.Common.{◌≡◌, [], refl, ap}
use Rattle.std.proofs.lemmas.Bool.{eq-eqb}
use Rattle.spec_plant.specs.Trees.{elem_tree, trees_of}
use Rattle.spec_machine.specs.TypesByText.{if_small}
use Rattle.type_layout.specs.NamedTypes.{types_of}
use Rattle.type_layout.specs.Shapes.{elem_of}
use Rattle.port_device.specs.TypesPut.{ends_read, tree_with}
use Rattle.port_device.proofs.TypesPut.{put_along}
use Rattle.port_device.proofs.typed.put_type.Goals as goal

pub returns-then-t-eq0-clause-put : goal.returns-then-t-eq0-clause-put
returns-then-t-eq0-clause-put c =
    let tree = elem_tree (trees_of (types_of c.args.types.now)) (elem_of c.args.elem) in
    let z = eq-eqb c.args.t.now.count 0 c.if-t-eq0.true in
    let none : ends_read c.args.t.now ≡ [] = rw z refl in
    put_along (if_small tree) (if_small (tree_with (ends_read c.args.t.now) tree)) c.put_one.result c.args.out.now c.put_one.new.out
    (ap (λ es. if_small (tree_with es tree)) none) c.put_one.ensures.put
