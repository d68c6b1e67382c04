use borrow.Follows.Closed.{read_of}
use Rattle.std.proofs.Common.{◌≡◌, ◌∙◌, ap}
use Rattle.std.specs.Prelude.{slice_get}
use Rattle.std.specs.Borrow.{MutBor}
use Rattle.std.specs.Option.{ghost_name_of}
use Rattle.port_device.specs.PortMemory.{PortMemory, PortsMemory}
use Rattle.port_device.specs.InsidePorts.{ports_in}
use Rattle.port_device.specs.PlaceOfPort.{place_numbered}
use Rattle.port_device.proofs.PortsLemmas.{get-place_numbered, lent_at, with_place}
use Rattle.port_device.proofs.ports.Ports.find_mut.Goals as goal

pub returns : goal.returns
returns c =
    let m : PortsMemory = ports_in c.self.inside in
    let number = c.args.port in
    let place = c.place_of-place.result in
    let is_place : place ≡ place_numbered number m.ports = c.place_of-place.ensures ∙ ap (place_numbered number) c.as_slice.ensures.value in
    let ports = c.self.inside.ports in
    let lent = c.get_mut.ensures in
    let now : MutBor PortMemory → PortMemory = λ x. x.now in
    let found = lent_at now m.ports ports.len place c.get_mut.result (ports.ok.0) (lent.variant.1) (lent.variant.0) lent.value in
    rw (← c.self.view_is) (
      λ t. read_of (ghost_name_of c.get_mut.result) (λ (w : PortMemory). with_place m number place w is_place t) m,
      record { lends = tt; value = found ∙ ap (slice_get m.ports) is_place ∙ get-place_numbered number m.ports },
    )
