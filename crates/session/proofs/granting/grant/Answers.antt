use Rattle.return_codes.specs.declared.code.Code.TheVariants.{C705}
use Rattle.session.specs.Grants.{handle_act}
use Rattle.session.proofs.GrantLemmas.{handle-answers, handle-leaves, found-handle, short-handle, lost-handle, refused-answers, refused-leaves}
use Rattle.session.proofs.granting.grant.Goals as goal

pub returns-in-Ok-clause-answer : goal.returns-in-Ok-clause-answer
returns-in-Ok-clause-answer c =
    let asked = c.args.asked.now in
    handle-answers c.args.port.now c.args.handles.now asked.len asked.bytes.now c.in-Ok.place c.grant_place.result _ _
    (λ a asks. found-handle a asked.len asked.bytes.now c.in-Ok.place c.if-asked-lt4.false (c.in-Ok.ensures.found a.world a.asker.port asks.held))
    (c.grant_place.ensures.answer c.args.port.now c.number.ensures)

pub returns-in-Ok-clause-leaves : goal.returns-in-Ok-clause-leaves
returns-in-Ok-clause-leaves c =
    let asked = c.args.asked.now in
    handle-leaves c.args.port.now c.args.handles.now _ asked.len asked.bytes.now c.in-Ok.place c.grant_place.result
    (λ a asks. found-handle a asked.len asked.bytes.now c.in-Ok.place c.if-asked-lt4.false (c.in-Ok.ensures.found a.world a.asker.port asks.held))
    (c.grant_place.ensures.leaves c.args.port.now c.number.ensures)

pub returns-then-asked-lt4-clause-answer : goal.returns-then-asked-lt4-clause-answer
returns-then-asked-lt4-clause-answer c = λ a asks.
    let asked = c.args.asked.now in
    refused-answers a.world (handle_act a asked.len asked.bytes.now) C705 c.args.out.now (short-handle a asked.len asked.bytes.now c.if-asked-lt4.true)

pub returns-then-asked-lt4-clause-leaves : goal.returns-then-asked-lt4-clause-leaves
returns-then-asked-lt4-clause-leaves c = λ a asks.
    let asked = c.args.asked.now in
    refused-leaves a (handle_act a asked.len asked.bytes.now) _ c.args.port.now c.args.handles.now
    (short-handle a asked.len asked.bytes.now c.if-asked-lt4.true) asks

pub returns-in-Err-clause-answer : goal.returns-in-Err-clause-answer
returns-in-Err-clause-answer c = λ a asks.
    let asked = c.args.asked.now in
    refused-answers a.world (handle_act a asked.len asked.bytes.now) c.in-Err.code c.args.out.now
    (lost-handle a asked.len asked.bytes.now c.in-Err.code c.if-asked-lt4.false (c.in-Err.ensures.found a.world a.asker.port asks.held))

pub returns-in-Err-clause-leaves : goal.returns-in-Err-clause-leaves
returns-in-Err-clause-leaves c = λ a asks.
    let asked = c.args.asked.now in
    refused-leaves a (handle_act a asked.len asked.bytes.now) _ c.args.port.now c.args.handles.now
    (lost-handle a asked.len asked.bytes.now c.in-Err.code c.if-asked-lt4.false (c.in-Err.ensures.found a.world a.asker.port asks.held)) asks
