use Rattle.std.proofs.Common.{◌+◌, ◌<◌, length, get_or, sym, ◌∙◌, ap, arith}
use Rattle.std.specs.Prelude.{Some}
use Rattle.type_layout.specs.Descriptions.{area_of, sizes_of}
use Rattle.spec_machine.specs.PortBytes.{start_in}
use Rattle.spec_machine.proofs.ImageLemmas.{area_within}
use Rattle.port_device.proofs.ImageLemmas.{first_byte}
use Rattle.port_device.proofs.areas.byte_of.Goals as goal

pub returns : goal.returns
returns c =
    let sizes = sizes_of c.args.sizes.now in
    let at_ = start_in sizes (area_of c.args.area) + c.args.«at» in
    let whole = area_within sizes (area_of c.args.area) in
    let within = c.requires.within in
    let long = c.requires.image in
    let inside : at_ < length c.args.image.now = omega (arith, whole, within, long) in
    first_byte c.args.image.now at_ inside ∙ ap (λ xs. Some (get_or xs 0 0)) (sym c.bytes_of-bytes.ensures)
