use Rattle.std.proofs.Common.{◌≡◌, ap, ◌∙◌, subst}
use Rattle.std.specs.Prelude.{IfOk}
use Rattle.client_replies.specs.RecordParts.{behind_row}
use Rattle.client_replies.specs.Stages.{progress_kept, recording_kept, wait_kept}
use Rattle.client_replies.proofs.SampleParts.{sample_parts}
use Rattle.client_replies.proofs.recordings.after_record_sample.Goals as goal

pub returns : goal.returns
returns c =
    let w = wait_kept c.args.wait in
    let r = recording_kept c.args.r in
    subst (λ x. IfOk c.behind_row.result (λ p. progress_kept p ≡ x))
    (ap (behind_row w r) c.in_ok-row.ensures.row ∙ sample_parts w r c.args.handle c.args.time c.args.bytes.now) c.behind_row.ensures
