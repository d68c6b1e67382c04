-- The first step, and those behind it.
use Rattle.std.proofs.Common.{◌≡◌, ◌++◌, sym, ◌∙◌, ap}
use Rattle.name_paths.specs.Steps.{step_of}
use Rattle.spec_plant.specs.PartTexts.{name_behind, text_of_step}
use Rattle.spec_plant.specs.Trees.{TypeTree, tree_of}
use Rattle.type_layout.specs.Shapes.{shape_of_ref}
use Rattle.type_layout.specs.NamedTypes.{types_of}
use Rattle.symbol_table.proofs.SpelledTexts.{name_behind-step, name_behind-end}
use Rattle.symbol_table.proofs.spelled.+append_steps.Goals as goal

pub returns-in-None-clause-ok : goal.returns-in-None-clause-ok
returns-in-None-clause-ok t c =
    name_behind-end c.args.out.now (tree_of (types_of c.args.types.now) (shape_of_ref c.args.kind)) c.args.steps.now c.in-None.ensures.value

pub returns-in_ok-append_step-in-Some-clause-ok : goal.returns-in_ok-append_step-in-Some-clause-ok
returns-in_ok-append_step-in-Some-clause-ok t c =
    let types = types_of c.args.types.now in
    let tree = tree_of types (shape_of_ref c.args.kind) in
    let step = step_of c.in-Some.step in
    let whole : name_behind c.append_step.new.out (tree_of types (shape_of_ref c.kind_behind.result))
    c.in-Some.rest ≡ name_behind c.args.out.now tree c.args.steps.now
    = ap (λ o. name_behind o (tree_of types (shape_of_ref c.kind_behind.result)) c.in-Some.rest) c.in_ok-append_step-in-Some.ensures.ok
    ∙ ap (λ (ty : TypeTree). name_behind (c.args.out.now ++ text_of_step tree step) ty c.in-Some.rest) c.kind_behind.ensures.kind
    ∙ sym (name_behind-step c.args.out.now tree step c.in-Some.rest c.args.steps.now c.in-Some.ensures.value) in
    rw whole at c.append_steps.ensures.ok
