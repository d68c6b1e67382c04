use Rattle.std.proofs.Common.{refl, sym, ◌∙◌, ap, subst, ◌++◌}
use Rattle.index_groups.specs.Access.{IsWithin}
use Rattle.port_device.specs.Holds.{HoldsPort}
use Rattle.port_device.specs.PortMemory.{PortMemory}
use Rattle.port_device.specs.Ports.{memory_in}
use Rattle.port_device.proofs.PortLemmas.{bytes_read}
use Rattle.port_device.proofs.port.Port.read_reach.Goals as goal

pub returns-in_ok-put_field-in-Bytes-clause-answer : goal.returns-in_ok-put_field-in-Bytes-clause-answer
returns-in_ok-put_field-in-Bytes-clause-answer c = λ w p h.
    let m : PortMemory = memory_in c.self.inside in
    let held : HoldsPort w p m = subst (HoldsPort w p) (sym c.self.view_is) h in
    let P : PortMemory → Type 0 = λ x. IsWithin x.table.sizes c.args.range in
    let within : IsWithin m.table.sizes c.args.range = subst P (sym c.self.view_is) c.requires in
    let there = rw c.in-Bytes.is at within in
    rw c.in-Bytes.is (
      refl,
      c.in_ok-put_field-in-Bytes.ensures.ok
          ∙ ap (λ bs. c.args.out.now ++ bs) (c.bytes_of.ensures ∙ bytes_read w p m _ _ _ _ held c.self.invariant.sizes_are there.ends),
    )
