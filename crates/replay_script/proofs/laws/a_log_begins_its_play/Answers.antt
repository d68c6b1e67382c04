use Rattle.replay_script.proofs.BeginLemmas.{log_begins_play, answered_at_each_cut}
use Rattle.replay_script.proofs.laws.a_log_begins_its_play.Goals as goal

pub returns-clause-begins : goal.returns-clause-begins
returns-clause-begins g c = λ step s lines log. log_begins_play step s lines log

pub returns-clause-cut : goal.returns-clause-cut
returns-clause-cut g c = answered_at_each_cut
