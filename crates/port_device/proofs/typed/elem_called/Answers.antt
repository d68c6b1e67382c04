use Rattle.std.proofs.Common.{sym, ◌∙◌, ap}
use Rattle.std.specs.Prelude.{Some, option_map}
use Rattle.spec_plant.specs.Listed.{type_name}
use Rattle.spec_plant.specs.Trees.{tree_at, trees_of}
use Rattle.spec_plant.specs.TypeTexts.{is_same_word}
use Rattle.name_index.proofs.CallerLemmas.{position-within}
use Rattle.type_layout.specs.NamedTypes.{types_of, named_type_of}
use Rattle.port_device.proofs.TypesPut.{place_as}
use Rattle.port_device.proofs.typed.elem_called.Goals as goal

pub elem_at-requires-clause-there : goal.elem_at-requires-clause-there
elem_at-requires-clause-there c =
    position-within (λ t. is_same_word (type_name (named_type_of t)) c.args.name.now) c.args.types.now c.in-Some.place
    (sym c.place_named.ensures.place ∙ c.in-Some.is)

pub returns-in-Some-clause-tree : goal.returns-in-Some-clause-tree
returns-in-Some-clause-tree c =
    let trees = trees_of (types_of c.args.types.now) in
    ap Some c.elem_at.ensures.tree
    ∙ sym (ap (option_map (tree_at trees)) (place_as c.args.types.now c.args.name.now ∙ sym c.place_named.ensures.place ∙ c.in-Some.is))

pub returns-in-None-clause-tree : goal.returns-in-None-clause-tree
returns-in-None-clause-tree c =
    let trees = trees_of (types_of c.args.types.now) in
    sym (ap (option_map (tree_at trees)) (place_as c.args.types.now c.args.name.now ∙ sym c.place_named.ensures.place ∙ c.in-None.is))
