-- Each byte makes a packet, a beginning or neither.
use Rattle.std.proofs.Common.{rules, ap, ◌∙◌}
use Rattle.local_router.specs.Fronts.{front_of}
use Rattle.local_router.proofs.HeardLemmas.{when_asked, when_begun, when_foreign, when_all}
use Rattle.local_router.proofs.answering.answer_to.Goals as goal
use Rattle.local_router.proofs.answering.answer_to.Goals.{in-Asks+in_ok-put_reply-in-Asks, in-Begun}

pub returns-in-Foreign : goal.returns-in-Foreign
returns-in-Foreign c = when_foreign _ _ _ _ _ c.loop-i.i _ c.loop-i-test.true c.in_ok-push.ensures.ok c.loop-i.invariant _
    (c.in-Foreign.ensures ∙ ap front_of c.as_slice.ensures) (search rules)

pub loop-i-preserved : goal.loop-i-preserved
loop-i-preserved c = elim c.match-front_in.branch [
  | in-Asks+in_ok-put_reply-in-Asks w ↦ when_asked _ _ _ _ _ c.loop-i.i _ c.loop-i-test.true c.in_ok-push.ensures.ok c.loop-i.invariant
      w.in-Asks.ask c.match-front_in.reply c.match-front_in.text (w.in-Asks.ensures ∙ ap front_of c.as_slice.ensures) (search rules) (search rules)
  | in-Begun w ↦ when_begun _ _ _ _ _ c.loop-i.i _ c.loop-i-test.true c.in_ok-push.ensures.ok c.loop-i.invariant
      c.match-front_in.reply c.match-front_in.text (w.in-Begun.ensures ∙ ap front_of c.as_slice.ensures) (search rules) (search rules)
]

pub returns : goal.returns
returns c = when_all _ _ _ _ c.loop-i.i _ c.loop-i-test.false c.loop-i.invariant
