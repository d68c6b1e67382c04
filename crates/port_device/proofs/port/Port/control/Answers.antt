use Rattle.std.proofs.Common.{sym, ◌∙◌, ap, subst}
use Rattle.spec_machine.specs.Writes.{may_control}
use Rattle.return_codes.specs.declared.code.Code.TheVariants.{C704, C706}
use Rattle.port_device.specs.Holds.{HoldsPort}
use Rattle.port_device.specs.PortMemory.{PortMemory}
use Rattle.port_device.specs.Ports.{memory_in}
use Rattle.port_device.proofs.WriteLemmas.{refused, control_put, control_denied, control_invalid}
use Rattle.port_device.proofs.port.Port.control.Goals as goal

pub returns-then-not-may_control-clause-answer : goal.returns-then-not-may_control-clause-answer
returns-then-not-may_control-clause-answer c = λ w k h rights.
    let may = ap may_control rights ∙ sym c.may_control.ensures ∙ c.if-not-may_control.true in
    refused w k.port c.args.self.now _ C704 h (control_denied k c.args.ads c.args.device may)

pub returns-then-not-is_settable-clause-answer : goal.returns-then-not-is_settable-clause-answer
returns-then-not-is_settable-clause-answer c = λ w k h rights.
    let may = ap may_control rights ∙ sym c.may_control.ensures ∙ c.if-not-may_control.false in
    let other = sym c.is_settable.ensures ∙ c.if-not-is_settable.true in
    refused w k.port c.args.self.now _ C706 h (control_invalid k c.args.ads c.args.device may other)

pub returns-clause-answer : goal.returns-clause-answer
returns-clause-answer c = λ w k h rights.
    let m : PortMemory = memory_in c.self.inside in
    let held : HoldsPort w k.port m = subst (HoldsPort w k.port) (sym c.self.view_is) h in
    let may = ap may_control rights ∙ sym c.may_control.ensures ∙ c.if-not-may_control.false in
    control_put w k m c.args.ads c.args.device held may (sym c.is_settable.ensures ∙ c.if-not-is_settable.false)
