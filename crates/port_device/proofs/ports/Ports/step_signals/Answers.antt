use Rattle.std.proofs.Common.{◌≡◌, List, length, sym, ◌∙◌, ap, subst}
use Rattle.signals.specs.Bank.{waves_of}
use Rattle.signals.specs.Wave.{Wave}
use Rattle.spec_machine.specs.Ticks.{world_after_tick}
use Rattle.port_device.specs.PortMemory.{PortMemory, PortsMemory}
use Rattle.port_device.specs.InsidePorts.{ports_in}
use Rattle.port_device.specs.Holds.{HoldsPorts}
use Rattle.port_device.specs.Signals.{ports_after_steps}
use Rattle.port_device.proofs.StepLemmas.{ports_after_tick, refilled}
use Rattle.port_device.proofs.ports.Ports.step_signals.Goals as goal

pub returns-clause-ports : goal.returns-clause-ports
returns-clause-ports g c = λ w h same.
    let m : PortsMemory = ports_in c.self.inside in
    let old : List PortMemory = c.self.inside.ports.items in
    let new : List PortMemory = c.step_all.new.ports in
    let held : HoldsPorts w m = subst (HoldsPorts w) (sym c.self.view_is) h in
    let waves : List Wave = waves_of (λ b. (goal.Signal-dyn g (b.vtable, b.value)).wave b.value) c.args.bank.now in
    let stepped : new ≡ ports_after_steps 0 w.signals old
    = c.step_all.ensures.ports ∙ ap (ports_after_steps 0 waves) c.as_mut_slice.ensures.value ∙ ap (λ ws. ports_after_steps 0 ws old) (sym same) in
    let long : length new ≡ length old = c.step_all.auto.ports ∙ ap length c.as_mut_slice.ensures.value in
    let given_back = refilled new old c.self.inside.ports.len (c.self.inside.ports.ok.0) long in
    let P : List PortMemory → Type 0 = λ ms. HoldsPorts (world_after_tick w) (record m { ports = ms }) in
    subst P (sym (given_back ∙ stepped)) (ports_after_tick w m held)
