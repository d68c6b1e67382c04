use Rattle.std.proofs.Common.{List, ℕ, ◌++◌, length, ◌∙◌, ap, arith}
use Rattle.type_layout.specs.NamedTypes.{types_of}
use Rattle.port_device.specs.Uploads.{types_upload}
use Rattle.port_device.proofs.TypeLengths.{short_upload}
use Rattle.port_device.proofs.counting.types_size.Goals as goal

pub overflow_cast-result : goal.overflow_cast-result
overflow_cast-result c =
    let types = types_of c.args.types.now in
    let few = short_upload types c.requires in
    let written = ap length (c.in_ok-put_types.ensures.ok ∙ ap (λ (old : List ℕ). old ++ types_upload types) c.new-upload.ensures) in
    omega (arith, few, written, c.len.ensures)
