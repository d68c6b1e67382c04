-- What was given stands behind what was given before.
use Rattle.daemon_log.proofs.LineLemmas.{log_given}
use Rattle.daemon_log.proofs.ring.Ring.flush.Goals as goal

pub returns-clause-log : goal.returns-clause-log
returns-clause-log g c = λ told given log. log_given told given c.give.result _ _ c.give.ensures.waits log
