use Rattle.std.proofs.Common.{◌≡◌, sym, arith}
use Rattle.std.specs.Prelude.{Some, None}
use Rattle.std.proofs.lemmas.List.{length-map}
use Rattle.spec_plant.specs.Trees.{elem_tree, trees_of}
use Rattle.spec_machine.specs.TypesByText.{if_small}
use Rattle.type_layout.specs.NamedTypes.{types_of, named_type_of}
use Rattle.type_layout.specs.ReadTexts.{elem_text_of}
use Rattle.type_layout.specs.Shapes.{elem_of}
use Rattle.port_device.specs.TypesPut.{ends_read, elem_tree_of, tree_with, tree_read}
use Rattle.port_device.proofs.TypesPut.{read_none, read_some, put_none, put_along}
use Rattle.port_device.proofs.typed.put_read.Goals as goal

pub elem_named-requires-clause-few : goal.elem_named-requires-clause-few
elem_named-requires-clause-few c =
    let n = length-map c.args.types.now named_type_of in
    let few = c.requires.types.count in
    rw c.as_slice.ensures (omega (arith, n, few))

pub put_type-requires-clause-there : goal.put_type-requires-clause-there
put_type-requires-clause-there c = rw c.as_slice.ensures at c.in-Some.ensures.there

pub returns-in-Some-clause-put : goal.returns-in-Some-clause-put
returns-in-Some-clause-put c =
    let types = types_of c.args.types.now in
    let tree = elem_tree (trees_of types) (elem_of c.in-Some.elem) in
    let named : elem_tree_of types (elem_text_of c.args.t.now.elem) ≡ Some tree = sym (rw c.as_slice.ensures at c.in-Some.ensures.tree) in
    put_along (if_small (tree_with (ends_read c.args.t.now) tree)) (tree_read types c.args.t.now) c.put_type.result c.args.out.now c.put_type.new.out
    (read_some types c.args.t.now tree named) c.put_type.ensures.put

pub returns-in-None-clause-put : goal.returns-in-None-clause-put
returns-in-None-clause-put c =
    let types = types_of c.args.types.now in
    let named : elem_tree_of types (elem_text_of c.args.t.now.elem) ≡ None = sym (rw c.as_slice.ensures at c.in-None.ensures.tree) in
    put_none (tree_read types c.args.t.now) c.args.out.now (read_none types c.args.t.now named)
