use Rattle.std.proofs.Common.{◌<◌, [], ◌∷◌, ◌++◌, sym, ◌∙◌, ap, subst, arith}
use Rattle.port_device.specs.Holds.{HoldsPort}
use Rattle.port_device.specs.PortMemory.{PortMemory}
use Rattle.port_device.specs.Ports.{memory_in}
use Rattle.port_device.proofs.ReadLemmas.{version_refused, version_read}
use Rattle.port_device.proofs.port.Port.read_version.Goals as goal

pub returns-then-len-eq0-clause-answer : goal.returns-then-len-eq0-clause-answer
returns-then-len-eq0-clause-answer c = λ w p h. version_refused w c.args.len c.args.out.now c.if-len-eq0.true

pub returns-clause-answer : goal.returns-clause-answer
returns-clause-answer c = λ w p h.
    let m : PortMemory = memory_in c.self.inside in
    let held : HoldsPort w p m = subst (HoldsPort w p) (sym c.self.view_is) h in
    let other = c.if-len-eq0.false in
    let some : 0 < c.args.len = omega (arith, other) in
    version_read w c.args.len c.args.out.now c.push.new.self some (c.in_ok-push.ensures.ok ∙ ap (λ v. c.args.out.now ++ v ∷ []) held.version)
