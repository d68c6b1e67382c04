use Rattle.std.proofs.Common.{◌≡◌, ◌++◌, List, subst, true}
use Rattle.std.specs.Prelude.{OnOk}
use Rattle.std.specs.List.{All}
use Rattle.spec_machine.specs.World.{World}
use Rattle.spec_store.specs.BodyText.{FitsEntry, is_body_text}
use Rattle.spec_persistent.specs.Persistent.{body_of}
use Rattle.port_device.specs.Holds.{HoldsPorts}
use Rattle.port_device.specs.InsidePorts.{ports_in}
use Rattle.port_device.specs.PersistentRows.{ports_entries, HasNumber}
use Rattle.port_device.specs.PortMemory.{PortMemory, PortsMemory}
use Rattle.port_device.proofs.PersistentBodies.{AppendsBody, body-put, text-put}
use Rattle.port_device.proofs.ports.Ports.persistent.Goals as goal

pub returns-clause-ok : goal.returns-clause-ok
returns-clause-ok c =
    let m : PortsMemory = ports_in c.self.inside in
    let put = c.append_body-put in
    let old = c.args.out.now in
    let new = c.cut_back.new.self in
    let P : List PortMemory → Type 0 = λ ms. OnOk put.result (AppendsBody (record m { ports = ms }) old put.new.out) in
    let appended = subst P c.as_slice.ensures.value put.ensures.ok in
    let numbers = subst (All HasNumber) c.as_slice.ensures.value put.ensures.numbers in
    let Q : PortsMemory → Type 0 = λ x. OnOk c.cut_back.result ((w : World) → HoldsPorts w x → new ≡ old ++ body_of w.plant w.memory) in
    subst Q c.self.view_is
    (body-put c.cut_back.result put.result m old put.new.out new c.cut_back.ensures.answer c.cut_back.ensures.ok appended numbers)

pub returns-clause-is_text : goal.returns-clause-is_text
returns-clause-is_text c =
    let m : PortsMemory = ports_in c.self.inside in
    let put = c.append_body-put in
    let P : List PortMemory → Type 0 = λ ms. OnOk put.result (All FitsEntry (ports_entries ms)) in
    let fit = subst P c.as_slice.ensures.value put.ensures.fit in
    let numbers = subst (All HasNumber) c.as_slice.ensures.value put.ensures.numbers in
    let Q : PortsMemory → Type 0 = λ x. OnOk c.cut_back.result ((w : World) → HoldsPorts w x → is_body_text (body_of w.plant w.memory) ≡ true) in
    subst Q c.self.view_is (text-put c.cut_back.result put.result m c.cut_back.ensures.answer fit numbers)
