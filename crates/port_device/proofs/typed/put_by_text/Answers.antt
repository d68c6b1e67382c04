use Rattle.std.proofs.Common.{◌≡◌, sym, ◌∙◌, ap}
use Rattle.std.specs.Prelude.{Some, None, option_map, option_and_then}
use Rattle.spec_plant.specs.TypeTexts.{type_text_of}
use Rattle.spec_plant.specs.Shapes.{shape_named, shape_of_text}
use Rattle.spec_plant.specs.Trees.{tree_of}
use Rattle.spec_machine.specs.TypesByText.{if_small, tree_of_text}
use Rattle.type_layout.specs.NamedTypes.{types_of}
use Rattle.type_layout.specs.ReadTexts.{text_of}
use Rattle.port_device.specs.TypesPut.{tree_read}
use Rattle.port_device.proofs.TypesPut.{text-read, text-described, put_none, put_along}
use Rattle.port_device.proofs.typed.put_by_text.Goals as goal

pub put_read-requires-clause-elem : goal.put_read-requires-clause-elem
put_read-requires-clause-elem c =
    (text-read c.args.text.now (text_of c.in-Some.t) (sym c.read_type_text.ensures.value ∙ ap (option_map text_of) c.in-Some.is)).elem_

pub put_read-requires-clause-ends : goal.put_read-requires-clause-ends
put_read-requires-clause-ends c =
    (text-read c.args.text.now (text_of c.in-Some.t) (sym c.read_type_text.ensures.value ∙ ap (option_map text_of) c.in-Some.is)).ends

pub returns-in-Some-clause-put : goal.returns-in-Some-clause-put
unfolding tree_of_text shape_of_text
returns-in-Some-clause-put c =
    let types = types_of c.args.types.now in
    let read : type_text_of c.args.text.now ≡ Some (text_of c.in-Some.t) = sym c.read_type_text.ensures.value ∙ ap (option_map text_of) c.in-Some.is in
    put_along (tree_read types c.in-Some.t) (tree_of_text types c.args.text.now) c.put_read.result c.args.out.now c.put_read.new.out
    (ap (λ o. option_and_then if_small (option_map (tree_of types) (option_and_then (shape_named types) o))) read
    ∙ ap (option_and_then if_small) (text-described types (text_of c.in-Some.t))) c.put_read.ensures.put

pub returns-in-None-clause-put : goal.returns-in-None-clause-put
unfolding tree_of_text shape_of_text
returns-in-None-clause-put c =
    let types = types_of c.args.types.now in
    let read : type_text_of c.args.text.now ≡ None = sym c.read_type_text.ensures.value ∙ ap (option_map text_of) c.in-None.is in
    put_none (tree_of_text types c.args.text.now) c.args.out.now
    (ap (λ o. option_and_then if_small (option_map (tree_of types) (option_and_then (shape_named types) o))) read)
