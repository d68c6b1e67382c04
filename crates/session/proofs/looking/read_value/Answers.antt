use Rattle.session.proofs.ValueLemmas.{value-read, value-refused}
use Rattle.session.proofs.looking.read_value.Goals as goal

pub read_place-requires : goal.read_place-requires
read_place-requires c = c.in-Ok.ensures.placed c.args.port.now c.requires.some c.number.ensures

pub returns-in-Ok-clause-answer : goal.returns-in-Ok-clause-answer
returns-in-Ok-clause-answer c =
    let asked = c.args.asked.now in
    value-read c.args.port.now c.args.handles.now c.number.result asked.offset asked.len c.in-Ok.place _ _ _ c.number.ensures
    c.in-Ok.ensures.looks c.read_place.ensures.answer

pub returns-in-Err-clause-answer : goal.returns-in-Err-clause-answer
returns-in-Err-clause-answer c =
    let asked = c.args.asked.now in
    value-refused c.args.port.now c.args.handles.now c.number.result asked.offset asked.len c.in-Err.code _ c.number.ensures
    c.in-Err.ensures.looks
