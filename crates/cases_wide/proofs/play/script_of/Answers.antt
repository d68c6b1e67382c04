-- The lines that were read open each connection once.
use Rattle.std.proofs.Common.{◌∙◌}
use Rattle.spec_machine.specs.BuiltLines.{all_lines}
use Rattle.replay_script.proofs.FreshLemmas.{script_fresh}
use Rattle.cases_wide.proofs.play.script_of.Goals as goal

pub returns-in-Ok-Ok : goal.returns-in-Ok-Ok
returns-in-Ok-Ok c = script_fresh all_lines c.args.bytes.now c.in-Ok-Ok.script (c.in-Ok-Ok.ensures ∙ c.in-Ok-Ok.field-0-is)
