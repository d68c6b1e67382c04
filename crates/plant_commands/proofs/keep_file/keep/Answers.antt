-- A reading that ends the run is told; what was read is played.
use Rattle.std.proofs.Common.{length, refl}
use Rattle.ads_outside.specs.Rose.{Rose}
use Rattle.type_layout.specs.Descriptions.{description_of}
use Rattle.keep_play.specs.KeptDisk.{disk_used}
use Rattle.run_tasks.specs.declared.file_task.FileTask.TheVariants as file_task
use Rattle.run_tasks.specs.KeepAsked.{keeping}
use Rattle.run_tasks.specs.Verdict.{Keeps, over_store, verdict_of_both}
use Rattle.run_tasks.proofs.EndLemmas.{ending_in, ends_as_decided, ends_run}
use Rattle.run_tasks.proofs.OpenLemmas.{may_printed, may_wanting, opens_none}
use Rattle.plant_commands.specs.Keeping.{EndsKeeping}
use Rattle.plant_commands.proofs.KeepLemmas.{keeps_without_memory, both_read}
use Rattle.plant_commands.proofs.TaskReadLemmas.{reads_as_ended, reads_without_memory}
use Rattle.plant_commands.proofs.keep_file.keep.Goals as goal

pub returns-in-Err-clause-ends : goal.returns-in-Err-clause-ends
returns-in-Err-clause-ends g c =
    let waves = g.G.Sources.waves c.args.signals in
    keeps_without_memory (g.F.Files.state c.args.files.now).held waves (length waves) c.args.description.now c.args.script.now
    (Rose (g.F.Files.state c.args.files.now).faults (g.F.Files.state c.read_both.new.files).faults) c.end_without_memory.result
    (g.S.Sink.state c.args.out.now) (g.S.Sink.state c.end_without_memory.new.out)
    (disk_used g.D.Disk.contents g.D.Disk.may_leave g.D.Disk.moment g.D.Disk.left_since g.D.Disk.marked g.D.Disk.fault_count c.args.disk.now c.args.disk.now)
    (g.met.D.Disk.only_now c.args.disk.now) c.end_without_memory.ensures.memory c.end_without_memory.ensures.line

pub returns-in-Err-clause-reads : goal.returns-in-Err-clause-reads
returns-in-Err-clause-reads g c =
    reads_without_memory (file_task.Replay c.args.description.now c.args.script.now) c.end_without_memory.result _ _
    c.end_without_memory.ensures.memory c.in-Err.ensures.reads_some

pub returns-in-Ok-Err-clause-ends : goal.returns-in-Ok-Err-clause-ends
returns-in-Ok-Err-clause-ends g c =
    let waves = g.G.Sources.waves c.args.signals in
    let disk = disk_used g.D.Disk.contents g.D.Disk.may_leave g.D.Disk.moment g.D.Disk.left_since g.D.Disk.marked g.D.Disk.fault_count c.args.disk.now
    c.args.disk.now in
    ends_as_decided Keeps (λ x. EndsKeeping x c.print_outcome.result (g.S.Sink.state c.args.out.now) (g.S.Sink.state c.print_outcome.new.out) disk) (Unit {0})
    (g.F.Files.state c.args.files.now).held (verdict_of_both (length waves) (over_store waves) c.args.description.now c.args.script.now)
    (Rose (g.F.Files.state c.args.files.now).faults (g.F.Files.state c.read_both.new.files).faults) c.in-Ok-Err.told c.print_outcome.result
    (g.S.Sink.state c.args.out.now) (g.S.Sink.state c.print_outcome.new.out) tt
    c.print_outcome.ensures (rw (c.in-Ok-Err.field-0-is, c.count.ensures) at (c.in-Ok-Err.ensures.gives (over_store waves)))

pub returns-in-Ok-Err-clause-reads : goal.returns-in-Ok-Err-clause-reads
returns-in-Ok-Err-clause-reads g c =
    reads_as_ended (file_task.Replay c.args.description.now c.args.script.now) (ending_in c.in-Ok-Err.told) c.print_outcome.result _ _
    (g.S.Sink.state c.args.out.now) (g.S.Sink.state c.print_outcome.new.out) (rw c.in-Ok-Err.field-0-is at c.in-Ok-Err.ensures.status)
    c.print_outcome.ensures (rw c.in-Ok-Err.field-0-is at c.in-Ok-Err.ensures.reads)

pub returns-in-Ok-Ok-clause-ends : goal.returns-in-Ok-Ok-clause-ends
returns-in-Ok-Ok-clause-ends g c =
    let waves = g.G.Sources.waves c.args.signals in
    let both = c.in-Ok-Ok.both in
    let disk = disk_used g.D.Disk.contents g.D.Disk.may_leave g.D.Disk.moment g.D.Disk.left_since g.D.Disk.marked g.D.Disk.fault_count c.args.disk.now
    c.keep_both.new.disk in
    ends_run Keeps (λ x. EndsKeeping x c.keep_both.result (g.S.Sink.state c.args.out.now) (g.S.Sink.state c.keep_both.new.out) disk) (Unit {0})
    (g.F.Files.state c.args.files.now).held (verdict_of_both (length waves) (over_store waves) c.args.description.now c.args.script.now)
    (keeping (description_of both.description) waves both.script)
    (Rose (g.F.Files.state c.args.files.now).faults (g.F.Files.state c.read_both.new.files).faults) c.keep_both.result
    (g.S.Sink.state c.args.out.now) (g.S.Sink.state c.keep_both.new.out)
    c.keep_both.ensures.ends (rw (c.in-Ok-Ok.field-0-is, c.count.ensures) at (c.in-Ok-Ok.ensures.gives (over_store waves)))

pub returns-in-Ok-Ok-clause-reads : goal.returns-in-Ok-Ok-clause-reads
returns-in-Ok-Ok-clause-reads g c =
    both_read c.keep_both.result _ _ c.args.description.now c.args.script.now c.keep_both.ensures.status
    (rw c.in-Ok-Ok.field-0-is at c.in-Ok-Ok.ensures.reads_all)

pub returns-in-Err-clause-opens : goal.returns-in-Err-clause-opens
returns-in-Err-clause-opens g c =
    opens_none c.end_without_memory.result _ _ c.args.store.now (may_wanting c.end_without_memory.result c.end_without_memory.ensures.memory) refl

pub returns-in-Ok-Err-clause-opens : goal.returns-in-Ok-Err-clause-opens
returns-in-Ok-Err-clause-opens g c =
    opens_none c.print_outcome.result _ _ c.args.store.now
    (may_printed (ending_in c.in-Ok-Err.told) c.print_outcome.result (g.S.Sink.state c.args.out.now) (g.S.Sink.state c.print_outcome.new.out)
    (rw c.in-Ok-Err.field-0-is at c.in-Ok-Err.ensures.unopened) c.print_outcome.ensures) refl
