use Rattle.std.proofs.Common.{arith}
use Rattle.notify_table.proofs.RoundLemmas.{rounds}
use Rattle.notify_table.proofs.going_round.go_round.Goals as goal

pub returns-then-is_behind_others-clause-round : goal.returns-then-is_behind_others-clause-round
returns-then-is_behind_others-clause-round c = λ ok.
    rounds c.args.now c.args.due c.args.ring.now.items c.requires.in_turn (omega (arith, c.args.ring.now.ok.0, c.requires.within))
    (c.rise_together.ensures ok) (c.is_behind_others.ensures c.if-is_behind_others.true)
