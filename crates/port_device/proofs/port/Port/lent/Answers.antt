use Rattle.std.proofs.Common.{◌+◌, ◌≤◌, length, sym, ◌∙◌, ap, subst}
use Rattle.spec_plant.specs.Accepted.{image_size}
use Rattle.spec_plant.specs.Description.{size_in}
use Rattle.spec_plant.specs.Description as plant
use Rattle.type_layout.specs.Descriptions.{area_of, sizes_of}
use Rattle.port_device.specs.Holds.{HoldsPort}
use Rattle.port_device.specs.PortMemory.{PortMemory}
use Rattle.port_device.specs.Ports.{memory_in}
use Rattle.port_device.proofs.PortLemmas.{bytes_read}
use Rattle.port_device.proofs.ReloadLemmas.{length-image_bytes}
use Rattle.port_device.proofs.port.Port.lent.Goals as goal

pub returns-clause-bytes : goal.returns-clause-bytes
returns-clause-bytes c = λ w p h.
    let m : PortMemory = memory_in c.self.inside in
    let held : HoldsPort w p m = subst (HoldsPort w p) (sym c.self.view_is) h in
    let P : PortMemory → Type 0 = λ x. c.args.«at» + c.args.len ≤ size_in x.table.sizes (area_of c.args.area) in
    let within : P m = subst P (sym c.self.view_is) c.requires in
    c.bytes_of.ensures
    ∙ bytes_read w p m (sizes_of c.self.inside.sizes) (area_of c.args.area) c.args.«at» c.args.len held c.self.invariant.sizes_are within

pub returns-clause-len : goal.returns-clause-len
returns-clause-len c =
    let m : PortMemory = memory_in c.self.inside in
    let P : PortMemory → Type 0 = λ x. c.args.«at» + c.args.len ≤ size_in x.table.sizes (area_of c.args.area) in
    let within : P m = subst P (sym c.self.view_is) c.requires in
    let Q : plant.Sizes → Type 0 = λ x. c.args.«at» + c.args.len ≤ size_in x (area_of c.args.area) in
    let there : Q (sizes_of c.self.inside.sizes) = subst Q c.self.invariant.sizes_are within in
    ap (λ xs. length xs) c.bytes_of.ensures
    ∙ length-image_bytes (sizes_of c.self.inside.sizes) m.bytes.image (area_of c.args.area) c.args.«at» c.args.len
    (c.self.invariant.bytes ∙ ap image_size c.self.invariant.sizes_are) there
