use Rattle.std.proofs.Common.{◌≤◌, [], ◌∷◌, length, refl, sym, ◌∙◌, ap, subst, arith}
use Rattle.spec_machine.specs.Entries.{upload_info_with_types_of}
use Rattle.port_device.specs.Holds.{HoldsPort}
use Rattle.port_device.specs.PortMemory.{PortMemory}
use Rattle.port_device.specs.Ports.{memory_in}
use Rattle.port_device.proofs.UploadReads.{fixed_given, four_bytes, all_sizes_put}
use Rattle.port_device.proofs.port.Port.read_all_sizes.Goals as goal

pub returns-clause-answer : goal.returns-clause-answer
returns-clause-answer c = λ w p h.
    let m : PortMemory = memory_in c.self.inside in
    let held : HoldsPort w p m = subst (HoldsPort w p) (sym c.self.view_is) h in
    let count = c.symbol_count-symbols.result in
    let named = c.type_count-types.result in
    let size = c.self.inside.uploads.symbols in
    let bytes = c.self.inside.uploads.types in
    let few : 24 ≤ c.args.len = omega (arith, c.if-len-lt24.false) in
    fixed_given w c.args.len 24 (upload_info_with_types_of w.profile.manner w.plant p) (four_bytes (count ∷ size ∷ named ∷ bytes ∷ 0 ∷ 0 ∷ [])) c.args.out.now
    c.put_numbers.new.out refl few
    (all_sizes_put w p m count size named bytes held
    (c.symbol_count-symbols.ensures ∙ sym (ap (λ (x : PortMemory). length x.table.symbols) c.self.view_is))
    c.self.invariant.uploads_are.of_symbols
    (c.type_count-types.ensures ∙ sym (ap (λ (x : PortMemory). length x.types) c.self.view_is))
    c.self.invariant.uploads_are.of_types) c.in_ok-put_numbers.ensures.ok
