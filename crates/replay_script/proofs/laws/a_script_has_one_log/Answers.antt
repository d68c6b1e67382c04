use Rattle.replay_script.proofs.PlayedLemmas.{log_is_play}
use Rattle.replay_script.proofs.laws.a_script_has_one_log.Goals as goal

pub returns : goal.returns
returns g c = λ step s lines log. log_is_play step s lines log
