use Rattle.std.proofs.Common.{◌+◌, ◌≤◌, length, sym, ◌∙◌, ap, subst, arith}
use Rattle.std.proofs.lemmas.Bool.{lt-ltb}
use Rattle.return_codes.specs.declared.code.Code.TheVariants.{C704, C705}
use Rattle.spec_plant.specs.Description.{size_in}
use Rattle.spec_machine.specs.Acts.{Act}
use Rattle.spec_machine.specs.Writes.{may_write}
use Rattle.type_layout.specs.Descriptions.{area_of}
use Rattle.port_device.specs.Answers.{IsPlaceOf}
use Rattle.port_device.specs.Endings.{EndsAs}
use Rattle.port_device.specs.PortMemory.{PortMemory}
use Rattle.port_device.specs.Ports.{memory_in}
use Rattle.port_device.proofs.PlaceLemmas.{place_within}
use Rattle.port_device.proofs.PlaceWrites.{place_denied, place_too_long, place_is}
use Rattle.port_device.proofs.WriteLemmas.{refused}
use Rattle.port_device.proofs.port.Port.write_place.Goals as goal

pub returns-then-not-may_write-clause-answer : goal.returns-then-not-may_write-clause-answer
returns-then-not-may_write-clause-answer c = λ w named k h t asker.
    let may = ap may_write asker.rights_are ∙ sym c.may_write.ensures ∙ c.if-not-may_write.true in
    refused w k.port c.args.self.now _ C704 h (place_denied k named c.args.bytes.now may)

pub returns-then-bytes-place-clause-answer : goal.returns-then-bytes-place-clause-answer
returns-then-bytes-place-clause-answer c = λ w named k h t asker.
    let may = ap may_write asker.rights_are ∙ sym c.may_write.ensures ∙ c.if-not-may_write.false in
    refused w k.port c.args.self.now _ C705 h
    (place_too_long w k c.args.place named c.args.bytes.now may t (lt-ltb c.args.place.len (length c.args.bytes.now) c.if-bytes-place.true))

pub write_bytes-requires : goal.write_bytes-requires
write_bytes-requires c =
    let m : PortMemory = memory_in c.self.inside in
    let P : PortMemory → Type 0 = λ x. IsPlaceOf x.table c.args.place in
    let within = place_within c.self.inside.sizes c.self.inside.uploads c.self.inside.bound.items c.self.inside.marks.items m c.args.place
    c.self.invariant (subst P (sym c.self.view_is) c.requires) in
    let few = c.if-bytes-place.false in
    let Q : PortMemory → Type 0 = λ x. c.args.place.«at» + length c.args.bytes.now ≤ size_in x.table.sizes (area_of c.args.place.area) in
    subst Q c.self.view_is (omega (arith, within, few))

pub returns-clause-answer : goal.returns-clause-answer
returns-clause-answer c = λ w named k h t asker.
    let may = ap may_write asker.rights_are ∙ sym c.may_write.ensures ∙ c.if-not-may_write.false in
    let act = place_is w k c.args.self.now c.args.place named c.args.bytes.now may h t c.if-bytes-place.false in
    let P : Act → Type 0 = λ a. EndsAs w k.port a c.write_bytes.result c.write_bytes.new.self in
    subst P (sym act) (c.write_bytes.ensures.answer w k h asker.net_is)
