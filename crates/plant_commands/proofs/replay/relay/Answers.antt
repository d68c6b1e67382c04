-- A reading that ends the run is the outcome; what was read is relayed.
use Rattle.ads_outside.specs.Rose.{Rose}
use Rattle.type_layout.specs.Descriptions.{description_of}
use Rattle.run_tasks.specs.Verdict.{over_relay, verdict_of_both}
use Rattle.run_tasks.proofs.ReadLemmas.{some_of_two}
use Rattle.plant_commands.proofs.GivenLemmas.{decided_played}
use Rattle.plant_commands.proofs.replay.relay.Goals as goal

pub returns-in-Ok-Err-clause-decided : goal.returns-in-Ok-Err-clause-decided
returns-in-Ok-Err-clause-decided g c = rw c.in-Ok-Err.field-0-is at (c.in-Ok-Err.ensures.gives over_relay)

pub returns-in-Ok-clause-decided : goal.returns-in-Ok-clause-decided
returns-in-Ok-clause-decided g c =
    let both = c.in-Ok-Ok.both in
    decided_played (g.F.Files.state c.args.files.now).held (verdict_of_both c.args.signals over_relay c.args.description.now c.args.script.now)
    (over_relay (description_of both.description) both.script)
    (Rose (g.F.Files.state c.args.files.now).faults (g.F.Files.state c.read_both.new.files).faults) c.in-Ok.outcome c.in-Ok.ensures.is
    (rw c.in-Ok-Ok.field-0-is at (c.in-Ok-Ok.ensures.gives over_relay))

pub returns-in-Err-outcome_of_relay-clause-reads_some : goal.returns-in-Err-outcome_of_relay-clause-reads_some
returns-in-Err-outcome_of_relay-clause-reads_some g c =
    some_of_two (g.F.Files.state c.args.files.now).names (g.F.Files.state c.read_both.new.files).names c.args.description.now c.args.script.now
    (rw c.in-Ok-Ok.field-0-is at c.in-Ok-Ok.ensures.reads_all)
