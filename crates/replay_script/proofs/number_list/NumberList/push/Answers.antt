-- A number that is not there goes last.
use Rattle.std.proofs.Common.{◌∙◌}
use Rattle.replay_script.proofs.NumberLemmas.{pushed}
use Rattle.replay_script.proofs.number_list.NumberList.push.Goals as goal

pub returns-clause-ok : goal.returns-clause-ok
returns-clause-ok c = c.in_ok-insert.ensures.keys ∙ rw c.self.view_is (pushed c.args.number c.args.self.now c.requires)
