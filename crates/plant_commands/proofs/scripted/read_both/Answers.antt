-- A file that gives no description that is accepted ends the run; over one that is accepted the script's file decides.
use Rattle.std.proofs.Common.{Ok, Err}
use Rattle.ads_outside.specs.Named.{bytes_of}
use Rattle.ads_outside.specs.Rose.{Rose}
use Rattle.type_layout.specs.Descriptions.{description_of}
use Rattle.run_tasks.specs.Outcomes.{Decides, IsRead}
use Rattle.run_tasks.specs.Verdict.{verdict_of_both, verdict_of_file, verdict_of_script}
use Rattle.run_tasks.proofs.EndLemmas.{at_first}
use Rattle.plant_commands.proofs.TaskReadLemmas.{some_behind}
use Rattle.plant_commands.proofs.GivenLemmas.{gives_both}
use Rattle.plant_commands.proofs.scripted.read_both.Goals as goal

pub returns-in-Ok-Err-clause-gives : goal.returns-in-Ok-Err-clause-gives
returns-in-Ok-Err-clause-gives g c = λ play.
    let failed = Rose (g.F.Files.state c.args.files.now).faults (g.F.Files.state c.read_description.new.files).faults in
    at_first (g.F.Files.state c.args.files.now).held
    (λ first second. Decides (verdict_of_both c.args.signals play c.args.description.now c.args.script.now first second) failed c.in-Ok-Err.told)
    (λ second. rw c.in-Ok-Err.field-0-is at
    (c.in-Ok-Err.ensures.told (λ bytes d. verdict_of_file (verdict_of_script (play d)) (bytes_of second c.args.script.now))))

pub returns-in-Err-read_file-clause-reads_some : goal.returns-in-Err-read_file-clause-reads_some
returns-in-Err-read_file-clause-reads_some g c =
    some_behind (g.F.Files.state c.args.files.now).names (g.F.Files.state c.read_description.new.files).names (g.F.Files.state c.read_file.new.files).names
    c.args.description.now c.args.script.now c.in-Ok-Ok.ensures.reads c.in-Err-read_file.ensures.reads_some

pub returns-in-Ok-Err-read_file-clause-gives : goal.returns-in-Ok-Err-read_file-clause-gives
returns-in-Ok-Err-read_file-clause-gives g c = λ play.
    let read = c.in-Ok-Ok.read in
    let found : IsRead c.args.signals c.args.description.now (g.F.Files.state c.args.files.now).held read =
    rw c.in-Ok-Ok.field-0-is at c.in-Ok-Ok.ensures.found in
    gives_both (g.F.Files.state c.args.files.now).held (g.F.Files.state c.read_description.new.files).held play c.args.signals c.args.script.now
    c.args.description.now read.bytes (description_of read.description) (g.F.Files.state c.args.files.now).faults
    (g.F.Files.state c.read_description.new.files).faults (g.F.Files.state c.read_file.new.files).faults (Err c.in-Ok-Err-read_file.told)
    c.in-Ok-Ok.ensures.held c.in-Ok-Ok.ensures.later found.has found.is
    (rw c.in-Ok-Err-read_file.field-0-is at (c.in-Ok-Err-read_file.ensures.gives (play (description_of read.description))))

pub returns-in-Ok-Ok-read_file-clause-gives : goal.returns-in-Ok-Ok-read_file-clause-gives
returns-in-Ok-Ok-read_file-clause-gives g c = λ play.
    let read = c.in-Ok-Ok.read in
    let found : IsRead c.args.signals c.args.description.now (g.F.Files.state c.args.files.now).held read =
    rw c.in-Ok-Ok.field-0-is at c.in-Ok-Ok.ensures.found in
    gives_both (g.F.Files.state c.args.files.now).held (g.F.Files.state c.read_description.new.files).held play c.args.signals c.args.script.now
    c.args.description.now read.bytes (description_of read.description) (g.F.Files.state c.args.files.now).faults
    (g.F.Files.state c.read_description.new.files).faults (g.F.Files.state c.read_file.new.files).faults
    (Ok (record { description = read.description; script = c.in-Ok-Ok-read_file.script }))
    c.in-Ok-Ok.ensures.held c.in-Ok-Ok.ensures.later found.has found.is
    (rw c.in-Ok-Ok-read_file.field-0-is at (c.in-Ok-Ok-read_file.ensures.gives (play (description_of read.description))))
