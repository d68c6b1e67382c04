use Rattle.std.proofs.Common.{◌≡◌, ◌∙◌, ap}
use Rattle.std.specs.Prelude.{slice_get}
use Rattle.std.specs.List.{HoldsAt}
use Rattle.std.specs.Borrow.{Bor}
use Rattle.port_device.specs.PortMemory.{PortMemory, PortsMemory}
use Rattle.port_device.specs.InsidePorts.{ports_in}
use Rattle.port_device.specs.PlaceOfPort.{place_numbered}
use Rattle.port_device.proofs.PortsLemmas.{get-place_numbered, looked_up}
use Rattle.port_device.proofs.ports.Ports.find.Goals as goal

pub returns : goal.returns
returns c =
    let m : PortsMemory = ports_in c.self.inside in
    let number = c.args.port in
    let place = c.place_of.result in
    let seen = c.deref.result.now in
    let is_place : place ≡ place_numbered number m.ports = c.place_of.ensures ∙ ap (place_numbered number) c.as_slice.ensures.value in
    let found = looked_up (λ (x : Bor PortMemory). x.now) seen place (λ (x : Bor PortMemory). HoldsAt (λ y. x.now ≡ y) seen place)
    c.get.result (c.get.ensures.lookup.3) (c.get.ensures.lookup.1) in
    rw (← c.self.view_is) (
    found ∙ ap (λ xs. slice_get xs place) c.deref.ensures.value ∙ ap (slice_get m.ports) is_place ∙ get-place_numbered number m.ports
    )
