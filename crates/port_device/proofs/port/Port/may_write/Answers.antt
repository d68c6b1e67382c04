use Rattle.std.proofs.Common.{◌+◌, ◌*◌, ◌≤◌, length, refl, sym, ◌∙◌, ap, subst, arith}
use Rattle.std.specs.Prelude.{List, Bool}
use Rattle.std.specs.List.{list_all}
use Rattle.spec_plant.specs.Accepted.{image_size}
use Rattle.spec_plant.specs.Description as plant
use Rattle.spec_machine.specs.PortBytes.{start_in}
use Rattle.type_layout.specs.Descriptions.{area_of, sizes_of}
use Rattle.port_device.specs.Changed.{is_writable_number}
use Rattle.port_device.specs.Holds.{HoldsPort}
use Rattle.port_device.specs.Marks.{is_marked}
use Rattle.port_device.specs.PortMemory.{PortMemory}
use Rattle.port_device.specs.Ports.{memory_in}
use Rattle.port_device.proofs.MarkLemmas.{clear_may}
use Rattle.port_device.proofs.WritableLemmas.{may_all}
use Rattle.port_device.proofs.port.Port.may_write.Goals as goal

pub are_clear-requires : goal.are_clear-requires
are_clear-requires c =
    let marks : List Bool = c.self.inside.marks.items in
    let long : image_size (sizes_of c.self.inside.sizes) ≤ 64 * length marks
    = subst (λ (x : plant.Sizes). image_size x ≤ 64 * length marks) c.self.invariant.sizes_are c.self.invariant.marks_are.long in
    let same = ap (λ (xs : List Bool). length xs) c.as_slice.ensures.value in
    let within = c.span_of-span.ensures.within in
    omega (arith, long, same, within)

pub returns-then-are_clear : goal.returns-then-are_clear
returns-then-are_clear c = λ w p h.
    let m : PortMemory = memory_in c.self.inside in
    let held : HoldsPort w p m = subst (HoldsPort w p) (sym c.self.view_is) h in
    let marks : List Bool = c.self.inside.marks.items in
    let area = area_of c.args.area in
    let at_is = c.span_of-span.ensures.«at» ∙ ap (λ (x : plant.Sizes). start_in x area + c.args.«at») (sym c.self.invariant.sizes_are) in
    let len_is = c.span_of-span.ensures.len in
    let may = clear_may c.args.source.bytes w p m area c.args.«at» c.args.len marks held c.self.invariant.marks_are (λ i from upto.
    ap (λ xs. is_marked xs i) (sym c.as_slice.ensures.value)
    ∙ c.are_clear.ensures c.if-are_clear.true i (omega (arith, at_is, from)) (omega (arith, at_is, len_is, upto))) in
    (λ r. may, λ x. refl)

pub returns : goal.returns
returns c = λ w p h.
    let m : PortMemory = memory_in c.self.inside in
    let held : HoldsPort w p m = subst (HoldsPort w p) (sym c.self.view_is) h in
    let numbers = c.symbols_in-numbers.result.now in
    let all = may_all c.args.source.bytes w p m (area_of c.args.area) c.args.«at» c.args.len numbers held
    (c.symbols_in-numbers.ensures.plant m.types held.port held.table) in
    let t = c.may_write_all.ensures ∙ ap (λ ss. list_all (is_writable_number c.args.source.bytes ss) numbers) c.symbols.ensures.rows in
    (λ r. all.0 (sym t ∙ r), λ may. t ∙ all.1 may)
