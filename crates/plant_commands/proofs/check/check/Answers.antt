-- The file gives no description that is accepted, or it is told of.
use Rattle.std.proofs.Common.{ap}
use Rattle.ads_outside.specs.Rose.{Rose}
use Rattle.type_layout.specs.Descriptions.{description_of}
use Rattle.run_tasks.specs.declared.status.Status.TheVariants as status
use Rattle.run_tasks.specs.Report.{report_of}
use Rattle.run_tasks.specs.Verdict.{prints}
use Rattle.run_tasks.specs.Outcomes.{IsRead}
use Rattle.run_tasks.proofs.EndLemmas.{decided_read}
use Rattle.plant_commands.proofs.ToldLemmas.{each_told}
use Rattle.plant_commands.proofs.check.check.Goals as goal

pub report-requires-clause-told : goal.report-requires-clause-told
report-requires-clause-told g c =
    each_told c.args.signals c.in-Ok-Ok.read.description (rw c.in-Ok-Ok.field-0-is at c.in-Ok-Ok.ensures.accepted)

pub returns-in-Ok-Err-clause-decided : goal.returns-in-Ok-Err-clause-decided
returns-in-Ok-Err-clause-decided g c = rw c.in-Ok-Err.field-0-is at (c.in-Ok-Err.ensures.told (λ bytes d. prints (report_of d)))

pub returns-clause-decided : goal.returns-clause-decided
returns-clause-decided g c =
    let read = c.in-Ok-Ok.read in
    let found : IsRead c.args.signals c.args.description.now (g.F.Files.state c.args.files.now).held read =
    rw c.in-Ok-Ok.field-0-is at c.in-Ok-Ok.ensures.found in
    decided_read (g.F.Files.state c.args.files.now).held c.args.signals (λ bytes d. prints (report_of d)) c.args.description.now read.bytes
    (description_of read.description) (Rose (g.F.Files.state c.args.files.now).faults (g.F.Files.state c.read_description.new.files).faults)
    (record { status = status.Done; text = c.in-Ok.text }) found.has found.is (ap prints c.in-Ok.ensures)
