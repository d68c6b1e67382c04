use Rattle.std.proofs.Common.{◌≡◌, ◌∙◌, ap, arith}
use Rattle.std.specs.Prelude.{◌++◌, length}
use Rattle.std.specs.Int.{w16, w32, to_le_bytes}
use Rattle.port_device.specs.Behind.{behind}
use Rattle.port_device.proofs.BehindLemmas.{word-halves}
use Rattle.port_device.proofs.persists.behind_head.Goals as goal

pub returns : goal.returns
returns c =
    let name = c.args.name.now in
    let short = c.requires.short in
    let fits = c.ranges.ams_port.fits in
    let word : c.to_le_bytes.result ≡ to_le_bytes w16 c.args.ams_port ++ to_le_bytes w16 (length name) =
    c.to_le_bytes.ensures ∙ ap (to_le_bytes w32) c.word_of-word.ensures ∙ word-halves c.args.ams_port (length name) fits (omega (arith, short)) in
    c.behind_both.ensures ∙ ap (λ t. behind (t ++ name) c.args.bytes.now) word
