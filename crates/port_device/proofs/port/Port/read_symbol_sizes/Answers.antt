use Rattle.std.proofs.Common.{◌≤◌, [], ◌∷◌, length, refl, sym, ◌∙◌, ap, subst, arith}
use Rattle.spec_machine.specs.Entries.{upload_info_of}
use Rattle.port_device.specs.Holds.{HoldsPort}
use Rattle.port_device.specs.PortMemory.{PortMemory}
use Rattle.port_device.specs.Ports.{memory_in}
use Rattle.port_device.proofs.UploadReads.{fixed_given, four_bytes, sizes_put}
use Rattle.port_device.proofs.port.Port.read_symbol_sizes.Goals as goal

pub returns-clause-answer : goal.returns-clause-answer
returns-clause-answer c = λ w p h.
    let m : PortMemory = memory_in c.self.inside in
    let held : HoldsPort w p m = subst (HoldsPort w p) (sym c.self.view_is) h in
    let count = c.symbol_count.result in
    let size = c.self.inside.uploads.symbols in
    let few : 8 ≤ c.args.len = omega (arith, c.if-len-lt8.false) in
    fixed_given w c.args.len 8 (upload_info_of w.profile.manner p) (four_bytes (count ∷ size ∷ [])) c.args.out.now c.put_numbers.new.out refl few
    (sizes_put w p m count size held (c.symbol_count.ensures ∙ sym (ap (λ (x : PortMemory). length x.table.symbols) c.self.view_is))
    c.self.invariant.uploads_are.of_symbols) c.in_ok-put_numbers.ensures.ok
