use Rattle.std.proofs.Common.{◌++◌, List, ℕ, ap, arith, ◌∙◌}
use Rattle.spec_formats.specs.Codes.{no_error}
use Rattle.spec_frames.specs.Frame.{frame_bytes}
use Rattle.spec_machine.specs.Replies.{response_packet}
use Rattle.session.proofs.HeaderWords.{field-bytes}
use Rattle.session.proofs.RunLemmas.{ok-then}
use Rattle.session.proofs.data_frame.put_data_frame.Goals as goal

pub returns-then-bytes-eq4-clause-frame : goal.returns-then-bytes-eq4-clause-frame
returns-then-bytes-eq4-clause-frame c =
    let same = field-bytes c.args.bytes.now c.field_payload.result c.get32.result (λ i. omega (arith, c.type_inv.bytes i)) c.if-bytes-eq4.true c.get32.ensures
    c.field_payload.ensures in
    ok-then c.put_answer.result _ _ (λ said h is. said h is ∙ ap (λ x. c.args.out.now ++ frame_bytes (response_packet h no_error x)) same)
    c.put_answer.ensures.frame
