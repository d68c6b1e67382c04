use Rattle.std.proofs.Common.{sym}
use Rattle.spec_formats.specs.Groups.{group_of}
use Rattle.spec_formats.specs.Request.{Read}
use Rattle.spec_machine.specs.World.{World, setup_of}
use Rattle.spec_machine.specs.Client.{Client}
use Rattle.spec_machine.specs.Handles.{kept_status}
use Rattle.spec_machine.specs.Reach.{addressed_by_status}
use Rattle.spec_machine.specs.Reads.{read_act, read_group}
use Rattle.spec_plant.specs.World.{PlantPort}
use Rattle.port_device.specs.Groups.{without_handles}
use Rattle.session.specs.Asking.{plain_asked}
use Rattle.session.proofs.ReadLemmas.{read-by-handle, read-by-port, answer-along, port-answer}
use Rattle.session.proofs.reading.read_plain.Goals as goal

pub returns-then-is_value_by_handle-clause-answer : goal.returns-then-is_value_by_handle-clause-answer
returns-then-is_value_by_handle-clause-answer c =
    let asked = c.args.asked.now in
    answer-along c.args.port.now c.args.handles.now
    (λ a. read_act (addressed_by_status a.asker.port.number (kept_status a.client.handles asked.offset a.asker.port.number) asked.len))
    (λ a. plain_asked a (Read asked.group asked.offset asked.len)) c.read_value.result _ _
    (λ a. read-by-handle a asked.group asked.offset asked.len (sym c.if-is_value_by_handle.ensures)) c.read_value.ensures.answer

pub returns-clause-answer : goal.returns-clause-answer
returns-clause-answer c =
    let asked = c.args.asked.now in
    answer-along c.args.port.now c.args.handles.now
    (λ a. read_group (setup_of a.world) a.client a.asker.port (without_handles (group_of asked.group)) asked.offset asked.len)
    (λ a. plain_asked a (Read asked.group asked.offset asked.len)) c.read.result _ _
    (λ a. read-by-port a asked.group asked.offset asked.len (sym c.if-is_value_by_handle.ensures))
    (port-answer c.args.port.now c.args.handles.now
    (λ (w : World) (x : Client) (p : PlantPort). read_group (setup_of w) x p (without_handles (group_of asked.group)) asked.offset asked.len)
    c.read.result _ _ c.read.ensures.answer)
