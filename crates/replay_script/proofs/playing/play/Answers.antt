-- The run ends with the script, or for want of memory.
use Rattle.std.proofs.Common.{refl, inl, inr, arith}
use Rattle.replay_script.proofs.PlayingLemmas.{play_done, never_more}
use Rattle.replay_script.proofs.playing.play.Goals as goal

pub unreachable-requires : goal.unreachable-requires
unreachable-requires g c = elim c.in-Budget.is [
  | inl e ↦ never_more g.M.Served.steps g.M.Served.noted _ _ c.args.script c.new-wire.result c.serve-ended.new.wire c.into_log-log.result c.in-Some.limit
      c.new-wire.ensures c.serve-ended.ensures.kept c.into_log-log.ensures.log
      c.into_log-log.ensures.few c.in-Some.ensures.one_more (rw e at c.serve-ended.ensures.serve)
  | inr e ↦ (let rose = c.serve-ended.ensures.link_fault e in omega (arith, rose))
]

pub returns-in-Done : goal.returns-in-Done
returns-in-Done g c = λ x serves unused.
    rw c.into_log-log.ensures.log
    (play_done g.M.Served.steps g.M.Served.noted (g.M.Served.serves c.args.served.now)
    (g.M.Served.serves c.serve-ended.new.served) c.args.script c.new-wire.result c.serve-ended.new.wire
    c.new-wire.ensures c.in-Done.ensures.kept (c.in-Done.ensures.done refl) c.into_log-log.ensures.played (c.in-Done.ensures.turns (λ e. (cc))) x serves unused)
