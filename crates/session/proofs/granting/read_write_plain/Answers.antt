use Rattle.std.proofs.Common.{sym}
use Rattle.spec_formats.specs.Groups.{group_of}
use Rattle.spec_formats.specs.Request.{ReadWrite}
use Rattle.spec_plant.specs.World.{PlantPort}
use Rattle.spec_machine.specs.World.{World, setup_of}
use Rattle.spec_machine.specs.ByName.{read_write_group}
use Rattle.spec_machine.specs.Client.{Client}
use Rattle.port_device.specs.Groups.{without_handles}
use Rattle.session.specs.Asking.{plain_asked}
use Rattle.session.specs.Grants.{handle_act}
use Rattle.session.proofs.ReadLemmas.{answer-along, port-answer}
use Rattle.session.proofs.GrantLemmas.{asks-handle, asks-port, asked-leaves, port-leaves}
use Rattle.session.proofs.granting.read_write_plain.Goals as goal

pub returns-then-is_handle_by_name-clause-answer : goal.returns-then-is_handle_by_name-clause-answer
returns-then-is_handle_by_name-clause-answer c =
    let asked = c.args.asked.now in
    answer-along c.args.port.now c.args.handles.now (λ a. handle_act a asked.len asked.bytes.now)
    (λ a. plain_asked a (ReadWrite asked.group asked.offset asked.len asked.bytes.now)) c.grant.result _ _
    (λ a. asks-handle a asked.group asked.offset asked.len asked.bytes.now (sym c.if-is_handle_by_name.ensures)) c.grant.ensures.answer

pub returns-then-is_handle_by_name-clause-leaves : goal.returns-then-is_handle_by_name-clause-leaves
returns-then-is_handle_by_name-clause-leaves c =
    let asked = c.args.asked.now in
    asked-leaves c.args.port.now c.args.handles.now _ asked.group asked.offset asked.len asked.bytes.now c.grant.result
    (sym c.if-is_handle_by_name.ensures) c.grant.ensures.leaves

pub returns-clause-answer : goal.returns-clause-answer
returns-clause-answer c =
    let asked = c.args.asked.now in
    answer-along c.args.port.now c.args.handles.now
    (λ a. read_write_group (setup_of a.world) a.client a.asker.port (without_handles (group_of asked.group)) asked.len asked.bytes.now)
    (λ a. plain_asked a (ReadWrite asked.group asked.offset asked.len asked.bytes.now)) c.ask.result _ _
    (λ a. asks-port a asked.group asked.offset asked.len asked.bytes.now (sym c.if-is_handle_by_name.ensures))
    (port-answer c.args.port.now c.args.handles.now
    (λ (w : World) (x : Client) (p : PlantPort). read_write_group (setup_of w) x p (without_handles (group_of asked.group)) asked.len asked.bytes.now)
    c.ask.result _ _ c.ask.ensures.answer)

pub returns-clause-leaves : goal.returns-clause-leaves
returns-clause-leaves c =
    let asked = c.args.asked.now in
    port-leaves c.args.port.now c.args.handles.now asked.group asked.offset asked.len asked.bytes.now c.ask.result
    (sym c.if-is_handle_by_name.ensures)
