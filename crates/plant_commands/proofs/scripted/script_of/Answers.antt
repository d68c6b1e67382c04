-- The lines that were read are those of the bytes.
use Rattle.std.proofs.Common.{◌∙◌, Ok, Err}
use Rattle.spec_machine.specs.BuiltLines.{all_lines}
use Rattle.replay_script.proofs.FreshLemmas.{script_fresh}
use Rattle.plant_commands.proofs.GivenLemmas.{lines_of_script}
use Rattle.plant_commands.proofs.scripted.script_of.Goals as goal

pub returns-in-Ok-Ok-clause-is : goal.returns-in-Ok-Ok-clause-is
returns-in-Ok-Ok-clause-is c = λ play. lines_of_script play c.args.bytes.now (Ok c.in-Ok-Ok.script) (c.in-Ok-Ok.ensures ∙ c.in-Ok-Ok.field-0-is)

pub returns-in-Ok-Ok-clause-new : goal.returns-in-Ok-Ok-clause-new
returns-in-Ok-Ok-clause-new c = script_fresh all_lines c.args.bytes.now c.in-Ok-Ok.script (c.in-Ok-Ok.ensures ∙ c.in-Ok-Ok.field-0-is)

pub returns-in-Ok-clause-is : goal.returns-in-Ok-clause-is
returns-in-Ok-clause-is c =
    λ play. c.in-Ok.ensures ∙ lines_of_script play c.args.bytes.now (Err c.in-Ok-Err.number) (c.in-Ok-Err.ensures ∙ c.in-Ok-Err.field-0-is)
