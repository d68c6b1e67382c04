use Rattle.std.proofs.Common.{◌≡◌}
use Rattle.std.specs.Prelude.{◌++◌, length}
use Rattle.std.specs.Int.{w32, to_le_bytes}
use Rattle.port_device.proofs.BehindLemmas.{behind-none, behind-some}
use Rattle.port_device.proofs.persists.behind_sized.Goals as goal

pub returns-in-Some : goal.returns-in-Some
returns-in-Some c =
    let value = to_le_bytes w32 (length c.args.value.now) ++ c.args.value.now in
    let size : c.to_le_bytes.result ≡ to_le_bytes w32 (length c.args.value.now) = c.to_le_bytes.ensures in
    behind-some c.args.text.now value c.args.bytes.now c.in-Some.rest.now _ c.in-Some.ensures (rw size at c.behind_both.ensures)

pub returns-in-None : goal.returns-in-None
returns-in-None c = behind-none c.args.text.now (to_le_bytes w32 (length c.args.value.now) ++ c.args.value.now) c.args.bytes.now c.in-None.ensures
