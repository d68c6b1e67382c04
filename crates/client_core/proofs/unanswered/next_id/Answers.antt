use Rattle.std.proofs.Common.{◌∙◌, ap, sym, length}
use Rattle.spec_client.specs.Unanswered.{free_id}
use Rattle.client_core.proofs.UnansweredLemmas.{free_id_stays, free_id_step, free_id_end}
use Rattle.client_core.proofs.unanswered.next_id.Goals as goal

pub returns-then-not-has_outstanding : goal.returns-then-not-has_outstanding
returns-then-not-has_outstanding c =
    sym (free_id_stays c.loop-left.left c.args.us.now c.loop-left.id (sym c.has_outstanding.ensures ∙ c.if-not-has_outstanding.true))
    ∙ c.loop-left.invariant ∙ ap (λ id. free_id (length c.args.us.now) c.args.us.now id) c.id_after-id.ensures

pub loop-left-preserved : goal.loop-left-preserved
loop-left-preserved c =
    free_id_step c.loop-left.left c.args.us.now c.loop-left.id c.id_after-id-in-loop-left.result c.loop-left-test.true c.id_after-id-in-loop-left.ensures
    (sym c.has_outstanding.ensures ∙ c.if-not-has_outstanding.false)
    ∙ c.loop-left.invariant

pub returns : goal.returns
returns c =
    sym (free_id_end c.loop-left.left c.args.us.now c.loop-left.id c.loop-left-test.false)
    ∙ c.loop-left.invariant ∙ ap (λ id. free_id (length c.args.us.now) c.args.us.now id) c.id_after-id.ensures
