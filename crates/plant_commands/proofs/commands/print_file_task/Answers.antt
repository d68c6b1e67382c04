-- The outcome is printed.
use Rattle.std.proofs.Common.{inl, length}
use Rattle.ads_outside.specs.Rose.{Rose}
use Rattle.run_tasks.specs.EndsOr.{EndsOr, PrintsBy}
use Rattle.run_tasks.specs.Verdict.{Verdict, Serves, verdict_of_file_task}
use Rattle.run_tasks.proofs.EndLemmas.{any_files, ending_in, ends_as_decided, wants_endings}
use Rattle.run_tasks.proofs.VerdictLemmas.{of_file_task}
use Rattle.plant_commands.proofs.MigrationLemmas.{put_migrated, without_memory}
use Rattle.plant_commands.proofs.TaskReadLemmas.{reads_as_ended}
use Rattle.plant_commands.proofs.commands.print_file_task.Goals as goal

pub returns-in-Ok-clause-ends : goal.returns-in-Ok-clause-ends
returns-in-Ok-clause-ends g c =
    let old = g.S.Sink.state c.args.out.now in
    let new = g.S.Sink.state c.print_outcome.new.out in
    ends_as_decided Serves (λ x. ⊥) (Unit {0}) (g.F.Files.state c.args.files.now).held
    (λ first second. verdict_of_file_task (g.G.Sources.waves c.args.signals) c.args.task.now first second)
    (Rose (g.F.Files.state c.args.files.now).faults (g.F.Files.state c.outcome_of_task.new.files).faults) c.in-Ok.outcome c.print_outcome.result old new tt
    c.print_outcome.ensures c.in-Ok.ensures.decided

pub returns-in-Ok-clause-reads : goal.returns-in-Ok-clause-reads
returns-in-Ok-clause-reads g c =
    let o = c.in-Ok.outcome in
    let old = g.S.Sink.state c.args.out.now in
    let new = g.S.Sink.state c.print_outcome.new.out in
    reads_as_ended c.args.task.now (ending_in o) c.print_outcome.result _ _ old new c.in-Ok.ensures.plain
    c.print_outcome.ensures c.in-Ok.ensures.reads

pub returns-in-Err-clause-ends : goal.returns-in-Err-clause-ends
returns-in-Err-clause-ends g c =
    let waves = g.G.Sources.waves c.args.signals in
    let old = g.S.Sink.state c.args.out.now in
    let new = g.S.Sink.state c.end_without_memory.new.out in
    let s = c.end_without_memory.result in
    let failed = Rose (g.F.Files.state c.args.files.now).faults (g.F.Files.state c.outcome_of_task.new.files).faults in
    let P : Verdict → Type 0 = λ v. EndsOr Serves (λ x. ⊥) (Unit {0}) v s old new in
    any_files (g.F.Files.state c.args.files.now).held
    (λ first second. PrintsBy (verdict_of_file_task waves c.args.task.now first second) failed s old new)
    (λ first second. inl (of_file_task P
    (wants_endings Serves (λ x. ⊥) (Unit {0}) s old new tt (c.end_without_memory.ensures.memory, c.end_without_memory.ensures.line))
    waves c.args.task.now first second))

pub returns-in-Ok-clause-migrated : goal.returns-in-Ok-clause-migrated
returns-in-Ok-clause-migrated g c =
    let o = c.in-Ok.outcome in
    let old = g.S.Sink.state c.args.out.now in
    let new = g.S.Sink.state c.print_outcome.new.out in
    put_migrated (length (g.G.Sources.waves c.args.signals)) c.args.task.now (ending_in o) c.print_outcome.result (g.F.Files.state c.args.files.now).held old
    new
    c.print_outcome.ensures c.in-Ok.ensures.migrated

pub returns-in-Err-clause-migrated : goal.returns-in-Err-clause-migrated
returns-in-Err-clause-migrated g c =
    without_memory (length (g.G.Sources.waves c.args.signals)) c.args.task.now c.end_without_memory.result (g.F.Files.state c.args.files.now).held
    (g.S.Sink.state c.args.out.now) (g.S.Sink.state c.end_without_memory.new.out) c.end_without_memory.ensures.memory
