use Rattle.std.proofs.Common.{sym}
use Rattle.spec_machine.specs.Writes.{release_act}
use Rattle.spec_formats.specs.Request.{Write}
use Rattle.session.specs.Asking.{act_asked}
use Rattle.session.specs.Ends.{value_write_act}
use Rattle.session.proofs.WriteLemmas.{write-releases, write-by-handle, ends-along, port-ends}
use Rattle.session.proofs.writing.write.Goals as goal

pub returns-then-is_release-clause-ends : goal.returns-then-is_release-clause-ends
returns-then-is_release-clause-ends c = λ a asks asker.
    let x = c.args.asked.now in
    ends-along a (release_act a.client a.asker.port x.bytes.now) (act_asked a (Write x.group x.offset x.bytes.now)) _ _ _
    (write-releases a x.group x.offset x.bytes.now (sym c.if-is_release.ensures))
    (c.release.ensures.ends a c.args.port.now c.number.ensures asks)

pub returns-then-is_value_by_handle-clause-ends : goal.returns-then-is_value_by_handle-clause-ends
returns-then-is_value_by_handle-clause-ends c = λ a asks asker.
    let x = c.args.asked.now in
    ends-along a (value_write_act a x.offset x.bytes.now) (act_asked a (Write x.group x.offset x.bytes.now)) _ _ _
    (write-by-handle a x.group x.offset x.bytes.now (sym c.if-is_value_by_handle.ensures)) (c.write_value.ensures.ends a asks asker)

pub returns-clause-ends : goal.returns-clause-ends
returns-clause-ends c = λ a asks asker.
    let x = c.args.asked.now in
    port-ends a x.group x.offset x.bytes.now _ _ _ _ (sym c.if-is_release.ensures) (sym c.if-is_value_by_handle.ensures) asks
    (c.write.ensures.answer a.world a.client a.asker asks.held asker)
