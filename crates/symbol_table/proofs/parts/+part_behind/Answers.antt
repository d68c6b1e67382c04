-- The steps are none, or one step and the others.
use Rattle.name_paths.specs.Steps.{step_of}
use Rattle.type_layout.specs.NamedTypes.{types_of}
use Rattle.symbol_table.specs.FoundParts.{part_in}
use Rattle.symbol_table.proofs.Steps.{tells_here, tells_none, tells_on}
use Rattle.symbol_table.proofs.parts.+part_behind.Goals as goal

pub returns-in-None : goal.returns-in-None
returns-in-None t c = tells_here (types_of c.args.types.now) c.args.part c.args.steps.now c.requires.sound c.in-None.ensures.value

pub returns-in-None-part_at : goal.returns-in-None-part_at
returns-in-None-part_at t c =
    let types = types_of c.args.types.now in
    tells_none types c.args.part.comment.now (part_in types c.args.part)
    (step_of c.in-Some.step) c.args.steps.now c.in-Some.rest c.in-Some.ensures.value c.in-None-part_at.ensures

pub returns-in-Some-part_at : goal.returns-in-Some-part_at
returns-in-Some-part_at t c =
    let types = types_of c.args.types.now in
    tells_on types c.args.part.comment.now (part_in types c.args.part)
    (step_of c.in-Some.step) c.args.steps.now c.in-Some.rest c.in-Some-part_at.next c.part_behind.result
    c.in-Some.ensures.value c.in-Some-part_at.ensures c.part_behind.ensures
