use Rattle.std.proofs.Common.{List, ℕ, map, sym, ◌∙◌, ap, subst}
use Rattle.std.proofs.lemmas.Result.{IfOk-weaker}
use Rattle.port_device.specs.Holds.{HoldsPorts}
use Rattle.port_device.specs.InsidePorts.{ports_in}
use Rattle.port_device.specs.PortMemory.{PortMemory, PortsMemory}
use Rattle.port_device.proofs.PortsLemmas.{held_numbers}
use Rattle.port_device.proofs.ports.Ports.numbers.Goals as goal

pub returns : goal.returns
returns c =
    let m : PortsMemory = ports_in c.self.inside in
    let numbers_in : List PortMemory → List ℕ = λ ports. map (λ (p : PortMemory). p.number) ports in
    IfOk-weaker c.numbers_in.result _ _
    (λ numbers is w held.
    let h : HoldsPorts w m = subst (HoldsPorts w) (sym c.self.view_is) held in
    is ∙ ap numbers_in c.as_slice.ensures.value ∙ held_numbers w w.plant.ports m.ports h.each)
    c.numbers_in.ensures
