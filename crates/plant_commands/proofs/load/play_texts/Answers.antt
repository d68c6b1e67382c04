-- The texts are read as what they were made of.
use Rattle.std.proofs.Common.{sym, ◌∙◌, Ok}
use Rattle.spec_machine.specs.BuiltLines.{all_lines}
use Rattle.replay_script.proofs.FreshLemmas.{script_fresh}
use Rattle.type_layout.specs.Descriptions.{description_of}
use Rattle.plant_commands.proofs.LoadLemmas.{counts_of_load_so}
use Rattle.run_tasks.proofs.EndLemmas.{verdict_here}
use Rattle.plant_commands.proofs.load.play_texts.Goals as goal

pub play_counts-requires-clause-new : goal.play_counts-requires-clause-new
play_counts-requires-clause-new g c κs within =
    script_fresh all_lines c.args.script.now c.in-Ok-Ok-read_script.script (c.in-Ok-Ok-read_script.ensures ∙ c.in-Ok-Ok-read_script.field-0-is)

pub returns-in-Ok-Ok-read_script : goal.returns-in-Ok-Ok-read_script
returns-in-Ok-Ok-read_script g c =
    counts_of_load_so (g.G.Sources.waves c.args.signals) c.args.n (description_of c.in-Ok-Ok.description) c.in-Ok-Ok-read_script.script c.play_counts.result
    (verdict_here c.in-Ok-Ok.field-0 (Ok c.in-Ok-Ok.description) c.count.result _ c.args.description.now c.in-Ok-Ok.field-0-is c.count.ensures
    c.in-Ok-Ok.ensures.verdict ∙ c.requires.described)
    (sym (c.in-Ok-Ok-read_script.ensures ∙ c.in-Ok-Ok-read_script.field-0-is) ∙ c.requires.said)
    c.play_counts.ensures
