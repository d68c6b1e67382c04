use Rattle.std.proofs.Common.{◌+◌, [], ◌∷◌, ◌∙◌, ap}
use Rattle.std.specs.Prelude.{min}
use Rattle.type_layout.specs.Descriptions.{area_of, sizes_of}
use Rattle.spec_machine.specs.Access.{with_bit}
use Rattle.spec_machine.specs.PortBytes.{start_in, with_image_bytes}
use Rattle.port_device.proofs.ImageLemmas.{byte_written}
use Rattle.port_device.proofs.areas.put_bit.Goals as goal

pub returns : goal.returns
returns c =
    let sizes = sizes_of c.args.sizes.now in
    let image = c.args.image.now in
    let area = area_of c.args.area in
    c.put_bytes.ensures ∙ ap (λ v. with_image_bytes sizes image area c.args.«at» (v ∷ [])) c.with_bit-byte.ensures
    ∙ byte_written image (start_in sizes area + c.args.«at») c.byte_of.result (with_bit c.args.bit (min c.args.value 1)) c.byte_of.ensures
