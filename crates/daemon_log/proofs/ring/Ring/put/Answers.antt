-- The line is kept or lost.
use Rattle.daemon_log.proofs.LineLemmas.{log_after}
use Rattle.daemon_log.proofs.ring.Ring.put.Goals as goal

pub returns-clause-log : goal.returns-clause-log
returns-clause-log c = λ told given log. log_after told given c.args.line.now _ _ c.keep.ensures log
