use Rattle.std.proofs.Common.{[], ◌∷◌, sym, ◌∙◌, ap, subst}
use Rattle.index_groups.specs.Access.{IsWithin}
use Rattle.port_device.specs.PortMemory.{PortMemory}
use Rattle.port_device.specs.Ports.{memory_in}
use Rattle.port_device.specs.Holds.{HoldsPort}
use Rattle.port_device.proofs.ImageLemmas.{one_set}
use Rattle.port_device.proofs.PortLemmas.{bytes_read, bit_read}
use Rattle.port_device.proofs.port.Port.peek.Goals as goal

pub returns-in-Bytes : goal.returns-in-Bytes
returns-in-Bytes c = λ w p h.
    let m : PortMemory = memory_in c.self.inside in
    let held : HoldsPort w p m = subst (HoldsPort w p) (sym c.self.view_is) h in
    let P : PortMemory → Type 0 = λ x. IsWithin x.table.sizes c.args.r in
    let within : IsWithin m.table.sizes c.args.r = subst P (sym c.self.view_is) c.requires.within in
    let there = rw c.in-Bytes.is at within in
    rw c.in-Bytes.is (c.copy_from_slice.ensures.after ∙ c.bytes_of.ensures ∙ bytes_read w p m _ _ _ _ held c.self.invariant.sizes_are there.ends)

pub returns-in-Bit : goal.returns-in-Bit
returns-in-Bit c = λ w p h.
    let m : PortMemory = memory_in c.self.inside in
    let held : HoldsPort w p m = subst (HoldsPort w p) (sym c.self.view_is) h in
    let P : PortMemory → Type 0 = λ x. IsWithin x.table.sizes c.args.r in
    let within : IsWithin m.table.sizes c.args.r = subst P (sym c.self.view_is) c.requires.within in
    let there = rw c.in-Bit.is at within in
    let room = rw c.in-Bit.is at c.requires.room in
    rw c.in-Bit.is (one_set c.args.out.now c.bit_of.result room
    ∙ ap (λ v. v ∷ []) (c.bit_of.ensures ∙ bit_read w p m _ _ _ _ _ held c.self.invariant.sizes_are there.byte c.byte_of-byte.ensures))
