use Rattle.session.proofs.WriteLemmas.{value-denied, value-ends, value-dead}
use Rattle.session.proofs.writing.write_value.Goals as goal

pub returns-then-not-may_write-clause-ends : goal.returns-then-not-may_write-clause-ends
returns-then-not-may_write-clause-ends c = λ a asks asker. value-denied a c.args.handle c.args.bytes.now _ _ _ _ asks asker c.if-not-may_write.ensures

pub write_place-requires : goal.write_place-requires
write_place-requires c = c.in-Ok.ensures.placed c.args.port.now c.requires.some c.number.ensures

pub returns-in-Ok-clause-ends : goal.returns-in-Ok-clause-ends
returns-in-Ok-clause-ends c = λ a asks asker.
    value-ends a c.args.port.now _ c.args.handles.now c.number.result c.args.handle c.in-Ok.place c.args.bytes.now _ asks c.number.ensures
    c.in-Ok.ensures.looks
    (λ named is. c.write_place.ensures.answer a.world named a.asker asks.held is asker)

pub returns-in-Err-clause-ends : goal.returns-in-Err-clause-ends
returns-in-Err-clause-ends c = λ a asks asker.
    value-dead a c.args.port.now c.args.handles.now c.number.result c.args.handle c.args.bytes.now c.in-Err.code _ _ asks c.number.ensures asker
    c.if-not-may_write.ensures c.in-Err.ensures.looks
