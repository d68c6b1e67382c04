use Rattle.std.proofs.Common.{◌++◌, drop, ◌∙◌, ap}
use Rattle.sum_commands.proofs.ReplyLemmas.{reply-of, ok-given}
use Rattle.sum_commands.proofs.run.run_sum.Goals as goal

pub returns-in-Ok-cut_back-clause-reply : goal.returns-in-Ok-cut_back-clause-reply
returns-in-Ok-cut_back-clause-reply g c = λ s stands.
    let said = ok-given c.put_reply-put.result _ _ c.in-Ok-cut_back.ensures.answer c.put_reply-put.ensures.ok in
    let kept = ok-given c.put_reply-put.result _ _ c.in-Ok-cut_back.ensures.answer c.in-Ok-cut_back.ensures.ok in
    let bytes = c.args.bytes.now in
    let behind = c.bytes_behind.ensures ∙ ap (λ k. drop k bytes) c.heads.ensures.len in
    let reply = reply-of g.P.PartService.given g.P.PartService.left s c.of-form.result c.args.n bytes c.bytes_behind.result.now _ behind
    c.of-form.ensures in
    kept ∙ (said s stands).bytes ∙ ap (λ x. c.args.out.now ++ x) reply
