use Rattle.std.proofs.Common.{◌≡◌, ◌<◌, ◌^◌, List, length, subst}
use Rattle.std.specs.Prelude.{IfOk, bytes_eq}
use Rattle.std.specs.List.{All}
use Rattle.spec_machine.specs.World.{World}
use Rattle.spec_store.specs.BodyText.{body_text}
use Rattle.spec_persistent.specs.Persistent.{body_of}
use Rattle.port_device.specs.Holds.{HoldsPorts}
use Rattle.port_device.specs.InsidePorts.{ports_in}
use Rattle.port_device.specs.PersistentRows.{ports_entries, HasNumber}
use Rattle.port_device.specs.PortMemory.{PortMemory, PortsMemory}
use Rattle.port_device.proofs.BehindLemmas.{body-persists}
use Rattle.port_device.proofs.ports.Ports.persists.Goals as goal

pub returns : goal.returns
returns c =
    let m : PortsMemory = ports_in c.self.inside in
    let answer = c.is_body.result in
    let body = c.args.body.now in
    let P : List PortMemory → Type 0 = λ ms. IfOk answer (λ same. length (ports_entries ms) < 2 ^ 32 → same ≡ bytes_eq body (body_text (ports_entries ms))) in
    let is = subst P c.as_slice.ensures.value c.is_body.ensures.same in
    let numbers = subst (All HasNumber) c.as_slice.ensures.value c.is_body.ensures.numbers in
    let Q : PortsMemory → Type 0 = λ x. IfOk answer (λ same. (w : World) → HoldsPorts w x → same ≡ bytes_eq body (body_of w.plant w.memory)) in
    subst Q c.self.view_is (body-persists answer m body is numbers)
