use Rattle.std.proofs.Common.{◌+◌, ◌≤◌, ◌++◌, arith, ◌∙◌, ap, sym, subst}
use Rattle.spec_plant.specs.Description.{size_in}
use Rattle.spec_plant.specs.Description as plant
use Rattle.type_layout.specs.Descriptions.{area_of}
use Rattle.port_device.specs.Answers.{IsPlaceOf}
use Rattle.port_device.specs.Holds.{HoldsPort}
use Rattle.port_device.specs.PortMemory.{PortMemory}
use Rattle.port_device.specs.Ports.{memory_in}
use Rattle.port_device.proofs.PlaceLemmas.{place_within, place_read}
use Rattle.port_device.proofs.port.Port.read_place.Goals as goal

pub bytes_of-requires-clause-within : goal.bytes_of-requires-clause-within
bytes_of-requires-clause-within c =
    let m : PortMemory = memory_in c.self.inside in
    let P : PortMemory → Type 0 = λ x. IsPlaceOf x.table c.args.place in
    let within = place_within c.self.inside.sizes c.self.inside.uploads c.self.inside.bound.items c.self.inside.marks.items m c.args.place
    c.self.invariant (subst P (sym c.self.view_is) c.requires) in
    let Q : plant.Sizes → Type 0 = λ x. c.args.place.«at» + c.args.place.len ≤ size_in x (area_of c.args.place.area) in
    let there = subst Q c.self.invariant.sizes_are within in
    let few = c.if-len-place.false in
    omega (arith, there, few)

pub returns-clause-answer : goal.returns-clause-answer
returns-clause-answer c = λ w p named h t.
    let m : PortMemory = memory_in c.self.inside in
    let P : PortMemory → Type 0 = λ x. IsPlaceOf x.table c.args.place in
    let within = place_within c.self.inside.sizes c.self.inside.uploads c.self.inside.bound.items c.self.inside.marks.items m c.args.place
    c.self.invariant (subst P (sym c.self.view_is) c.requires) in
    place_read w p m c.args.place named _ c.args.len c.args.out.now c.put_field.new.out (subst (HoldsPort w p) (sym c.self.view_is) h) t
    c.self.invariant.sizes_are within c.if-len-place.false (c.in_ok-put_field.ensures.ok ∙ ap (λ bs. c.args.out.now ++ bs) c.bytes_of.ensures)
