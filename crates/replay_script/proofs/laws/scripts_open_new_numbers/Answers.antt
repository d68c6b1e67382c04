use Rattle.spec_machine.specs.BuiltLines.{all_lines}
use Rattle.replay_script.proofs.FreshLemmas.{script_fresh}
use Rattle.replay_script.proofs.laws.scripts_open_new_numbers.Goals as goal

pub returns : goal.returns
returns c = script_fresh all_lines
