use Rattle.std.proofs.Common.{◌≤◌, sym, ◌∙◌, ap, subst, arith}
use Rattle.spec_machine.specs.Entries.{symbol_upload_of}
use Rattle.type_layout.specs.NamedTypes.{types_of}
use Rattle.port_device.specs.Holds.{HoldsPort}
use Rattle.port_device.specs.PortMemory.{PortMemory}
use Rattle.port_device.specs.Ports.{memory_in}
use Rattle.port_device.specs.Uploads.{symbols_upload}
use Rattle.port_device.proofs.UploadReads.{fixed_refused, fixed_given, upload_at_port, size_at_port}
use Rattle.port_device.proofs.port.Port.read_symbols.Goals as goal

pub returns-then-len-self-clause-answer : goal.returns-then-len-self-clause-answer
returns-then-len-self-clause-answer c = λ w p h.
    let m : PortMemory = memory_in c.self.inside in
    let held : HoldsPort w p m = subst (HoldsPort w p) (sym c.self.view_is) h in
    fixed_refused w c.args.len c.self.inside.uploads.symbols (symbol_upload_of w.profile.manner p) c.args.out.now
    (size_at_port w p m held w.profile.manner c.self.inside.uploads.symbols c.self.invariant.uploads_are.of_symbols) c.if-len-self.true

pub returns-clause-answer : goal.returns-clause-answer
returns-clause-answer c = λ w p h.
    let m : PortMemory = memory_in c.self.inside in
    let held : HoldsPort w p m = subst (HoldsPort w p) (sym c.self.view_is) h in
    let few : c.self.inside.uploads.symbols ≤ c.args.len = omega (arith, c.if-len-self.false) in
    fixed_given w c.args.len c.self.inside.uploads.symbols (symbol_upload_of w.profile.manner p)
    (symbols_upload m.manner (types_of c.deref.result.now) c.self.inside.table) c.args.out.now c.put_symbols.new.out
    (size_at_port w p m held w.profile.manner c.self.inside.uploads.symbols c.self.invariant.uploads_are.of_symbols) few
    (ap (λ ts. symbols_upload m.manner (types_of ts) c.self.inside.table) c.deref.ensures
    ∙ upload_at_port w p m held m.manner ∙ ap (λ x. symbol_upload_of x p) held.manner) c.in_ok-put_symbols.ensures.ok
