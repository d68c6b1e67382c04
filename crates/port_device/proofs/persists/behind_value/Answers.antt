use Rattle.std.proofs.Common.{◌∙◌, ap}
use Rattle.std.specs.Prelude.{◌++◌, length}
use Rattle.std.specs.Int.{w32, w64, to_le_bytes}
use Rattle.port_device.specs.Behind.{behind}
use Rattle.port_device.proofs.BehindLemmas.{behind-none, behind-some, value-parts}
use Rattle.port_device.proofs.persists.behind_value.Goals as goal

pub returns-in-Some : goal.returns-in-Some
returns-in-Some c =
    let size = to_le_bytes w64 (length c.args.form.now) in
    let rest = c.args.form.now ++ (to_le_bytes w32 (length c.args.value.now) ++ c.args.value.now) in
    behind-some size rest c.args.bytes.now c.in-Some.rest.now _ (rw c.to_le_bytes.ensures at c.in-Some.ensures) c.behind_sized.ensures
    ∙ ap (λ t. behind t c.args.bytes.now) (value-parts c.args.form.now c.args.value.now)

pub returns-in-None : goal.returns-in-None
returns-in-None c =
    let size = to_le_bytes w64 (length c.args.form.now) in
    let rest = c.args.form.now ++ (to_le_bytes w32 (length c.args.value.now) ++ c.args.value.now) in
    behind-none size rest c.args.bytes.now (rw c.to_le_bytes.ensures at c.in-None.ensures)
    ∙ ap (λ t. behind t c.args.bytes.now) (value-parts c.args.form.now c.args.value.now)
