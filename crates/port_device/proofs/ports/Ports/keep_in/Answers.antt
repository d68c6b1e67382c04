use Rattle.std.proofs.Common.{List, sym, ◌∙◌, ap, subst}
use Rattle.spec_plant.specs.Listed.{NamedType}
use Rattle.port_device.specs.Reloaded.{AreCompared}
use Rattle.port_device.specs.ReloadedPorts.{after_reload}
use Rattle.port_device.proofs.EntryLemmas.{numbered_has}
use Rattle.port_device.proofs.ports.Ports.keep_in.Goals as goal

pub returns-in_ok-keep-in-Some : goal.returns-in_ok-keep-in-Some
returns-in_ok-keep-in-Some c = λ before compared all.
    let was = c.in-Some.was.now in
    let found = sym c.in-Some.ensures in
    let types = numbered_has before c.args.ams_port c.args.self.now.ports was all found in
    let P : List NamedType → Type 0 = λ ts. AreCompared ts c.args.port.now.types c.args.same.now in
    c.in_ok-keep-in-Some.ensures (subst P (sym types) compared) ∙ sym (ap (λ o. after_reload o c.args.port.now) found)
