use Rattle.std.proofs.Common.{◌≡◌, length, false, sym, ◌∙◌, ap}
use Rattle.std.specs.Prelude.{Bool, ◌&&◌, ◌||◌, ◌==◌, not, bytes_eq}
use Rattle.std.specs.List.{list_any}
use Rattle.ads_base.specs.declared.net_id.NetId.{NetId}
use Rattle.spec_machine.proofs.Find.{test_other}
use Rattle.port_device.proofs.WritableLemmas.{row_writable}
use Rattle.port_device.proofs.writable.is_writable.Goals as goal

pub returns-else-len-eq0 : goal.returns-else-len-eq0
returns-else-len-eq0 c =
    let row = c.args.row.now in
    let is_source : NetId → Bool = λ writer. bytes_eq c.args.source.bytes writer.bytes in
    let named = list_any is_source row.writers in
    let some : (length row.writers == 0) ≡ false = test_other (length row.writers) 0 (λ e. c.if-len-eq0.false (c.len.ensures ∙ e)) in
    c.is_named.ensures ∙ ap (list_any is_source) c.as_slice.ensures
    ∙ sym (ap (λ b. not b && ((length row.writers == 0) || named)) c.if-not-row.true ∙ ap (λ b. b || named) some)
    ∙ row_writable c.args.source.bytes row
