-- A line off the grammar ends the run; the lines that were read are played over the built-in description.
use Rattle.type_layout.specs.Descriptions.{description_of}
use Rattle.run_tasks.specs.BuiltIn.{built_in}
use Rattle.run_tasks.specs.Verdict.{over_server}
use Rattle.plant_commands.proofs.GivenLemmas.{decided_built}
use Rattle.plant_commands.proofs.selftest.selftest.Goals as goal

pub returns-in-Ok-Err-clause-is : goal.returns-in-Ok-Err-clause-is
returns-in-Ok-Err-clause-is g c =
    rw c.in-Ok-Err.field-0-is at (c.in-Ok-Err.ensures.is (over_server (g.G.Sources.waves c.args.signals) built_in))

pub returns-in-Ok-clause-is : goal.returns-in-Ok-clause-is
returns-in-Ok-clause-is g c =
    let waves = g.G.Sources.waves c.args.signals in
    decided_built (over_server waves) (description_of c.in-Ok.description) built_in c.in-Ok-Ok.script c.args.bytes.now c.outcome_of_script.result
    c.in-Ok.ensures.is (rw c.in-Ok-Ok.field-0-is at (c.in-Ok-Ok.ensures.is (over_server waves built_in))) c.outcome_of_script.ensures.is
