-- A file that gives no bytes ends the run; of one that was read the script is.
use Rattle.std.proofs.Common.{Ok, Err}
use Rattle.ads_outside.specs.Rose.{Rose}
use Rattle.run_tasks.specs.Verdict.{verdict_of_script}
use Rattle.run_tasks.proofs.EndLemmas.{finds_here}
use Rattle.run_tasks.proofs.ReadingLemmas.{decided_none}
use Rattle.plant_commands.proofs.GivenLemmas.{gives_script}
use Rattle.plant_commands.proofs.scripted.read_file.Goals as goal

pub returns-in-Ok-Err-clause-gives : goal.returns-in-Ok-Err-clause-gives
returns-in-Ok-Err-clause-gives g c = λ play.
    let failed = Rose (g.F.Files.state c.args.files.now).faults (g.F.Files.state c.bytes_of_file.new.files).faults in
    decided_none (g.F.Files.state c.args.files.now).held (verdict_of_script play) c.args.script.now failed c.in-Ok-Err.told
    (finds_here (g.F.Files.state c.args.files.now).held c.args.script.now failed c.in-Ok-Err.field-0 (Err c.in-Ok-Err.told) c.in-Ok-Err.field-0-is
    c.in-Ok-Err.ensures.finds)

pub returns-in-Ok-Err-script_of-clause-gives : goal.returns-in-Ok-Err-script_of-clause-gives
returns-in-Ok-Err-script_of-clause-gives g c = λ play.
    let failed = Rose (g.F.Files.state c.args.files.now).faults (g.F.Files.state c.bytes_of_file.new.files).faults in
    gives_script (g.F.Files.state c.args.files.now).held play c.args.script.now c.in-Ok-Ok.bytes c.as_slice.result.now failed
    (Err c.in-Ok-Err-script_of.told) c.as_slice.ensures
    (finds_here (g.F.Files.state c.args.files.now).held c.args.script.now failed c.in-Ok-Ok.field-0 (Ok c.in-Ok-Ok.bytes) c.in-Ok-Ok.field-0-is
    c.in-Ok-Ok.ensures.finds)
    (rw c.in-Ok-Err-script_of.field-0-is at (c.in-Ok-Err-script_of.ensures.is play))

pub returns-clause-gives : goal.returns-clause-gives
returns-clause-gives g c = λ play.
    let failed = Rose (g.F.Files.state c.args.files.now).faults (g.F.Files.state c.bytes_of_file.new.files).faults in
    gives_script (g.F.Files.state c.args.files.now).held play c.args.script.now c.in-Ok-Ok.bytes c.as_slice.result.now failed
    (Ok c.in-Ok-Ok-script_of.script) c.as_slice.ensures
    (finds_here (g.F.Files.state c.args.files.now).held c.args.script.now failed c.in-Ok-Ok.field-0 (Ok c.in-Ok-Ok.bytes) c.in-Ok-Ok.field-0-is
    c.in-Ok-Ok.ensures.finds)
    (rw c.in-Ok-Ok-script_of.field-0-is at (c.in-Ok-Ok-script_of.ensures.is play))
