-- A word behind `reload` is off the grammar.
use Rattle.replay_script.proofs.GrammarLemmas.{after_reload}
use Rattle.replay_script.proofs.progress.Progress.begin_text.Goals as goal

pub returns-in-Some-clause-read : goal.returns-in-Some-clause-read
returns-in-Some-clause-read c = rw c.in-Some.is (after_reload c.args.self.now c.in-Some.field-0.now)
