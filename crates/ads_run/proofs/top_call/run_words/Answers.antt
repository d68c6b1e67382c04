-- The task's run is that of the words.
use Rattle.std.proofs.Common.{map, sym, subst, ◌∙◌, length, refl}
use Rattle.std.specs.Prelude.{string_bytes, Some, None}
use Rattle.ads_outside.specs.Rose.{Rose}
use Rattle.run_tasks.specs.Openings.{OpensStore, OpensTable}
use Rattle.run_tasks.specs.Tasks.{asked_task}
use Rattle.ads_run.specs.Uses.{disk_used, uses}
use Rattle.client_commands.specs.CallUses.{keeper_used, link_used}
use Rattle.run_tasks.specs.Verdict.{verdict_of}
use Rattle.run_tasks.proofs.OpenLemmas.{store_wanting, table_wanting}
use Rattle.plant_commands.proofs.MigrationLemmas.{of_task, any_without_memory}
use Rattle.ads_run.proofs.RunLemmas.{runs_as_asked, runs_usage, runs_without_memory}
use Rattle.ads_run.proofs.top_call.run_words.Goals as goal

pub returns-in-Ok-Some-clause-ends : goal.returns-in-Ok-Some-clause-ends
returns-in-Ok-Some-clause-ends g c =
    runs_as_asked (g.F.Files.state c.args.files.now).held (g.G.Sources.waves c.args.signals) (map string_bytes c.args.words.now) (Some c.in-Ok-Some.task)
    (Rose (g.F.Files.state c.args.files.now).faults (g.F.Files.state c.run_task.new.files).faults) c.run_task.result
    (uses (g.S.Sink.state c.args.out.now) (g.S.Sink.state c.run_task.new.out)
    (g.W.Wire.state c.args.wire.now).history (g.W.Wire.state c.run_task.new.wire).history
    (link_used g.L.Link.tells g.L.Link.state c.args.link.now c.run_task.new.link)
    (disk_used g.D.Disk.contents g.D.Disk.may_leave g.D.Disk.moment g.D.Disk.left_since g.D.Disk.marked g.D.Disk.fault_count c.args.disk.now
    c.run_task.new.disk)
    (keeper_used g.K.Keeper.state c.args.keeper.now c.run_task.new.keeper))
    (sym c.in-Ok-Some.ensures.asked ∙ c.in-Ok-Some.field-0-is) c.run_task.ensures.ends

pub returns-in-Ok-None-clause-ends : goal.returns-in-Ok-None-clause-ends
returns-in-Ok-None-clause-ends g c =
    let held = (g.F.Files.state c.args.files.now).held in
    let failed = Rose (g.F.Files.state c.args.files.now).faults (g.F.Files.state c.args.files.now).faults in
    runs_as_asked held (g.G.Sources.waves c.args.signals) (map string_bytes c.args.words.now) None failed c.print_and_end.result
    (uses (g.S.Sink.state c.args.out.now) (g.S.Sink.state c.print_and_end.new.out)
    (g.W.Wire.state c.args.wire.now).history (g.W.Wire.state c.args.wire.now).history
    (link_used g.L.Link.tells g.L.Link.state c.args.link.now c.args.link.now)
    (disk_used g.D.Disk.contents g.D.Disk.may_leave g.D.Disk.moment g.D.Disk.left_since g.D.Disk.marked g.D.Disk.fault_count c.args.disk.now c.args.disk.now)
    (keeper_used g.K.Keeper.state c.args.keeper.now c.args.keeper.now))
    (sym c.in-Ok-None.ensures.asked ∙ c.in-Ok-None.field-0-is)
    (runs_usage held (g.G.Sources.waves c.args.signals) failed c.print_and_end.result (g.S.Sink.state c.args.out.now) (g.S.Sink.state c.print_and_end.new.out)
    (g.W.Wire.state c.args.wire.now).history (link_used g.L.Link.tells g.L.Link.state c.args.link.now c.args.link.now)
    (disk_used g.D.Disk.contents g.D.Disk.may_leave g.D.Disk.moment g.D.Disk.left_since g.D.Disk.marked g.D.Disk.fault_count c.args.disk.now c.args.disk.now)
    (keeper_used g.K.Keeper.state c.args.keeper.now c.args.keeper.now) c.print_and_end.ensures)

pub returns-in-Err-clause-ends : goal.returns-in-Err-clause-ends
returns-in-Err-clause-ends g c =
    runs_without_memory (g.F.Files.state c.args.files.now).held
    (λ first second. verdict_of (g.G.Sources.waves c.args.signals) (map string_bytes c.args.words.now) first second)
    (Rose (g.F.Files.state c.args.files.now).faults (g.F.Files.state c.args.files.now).faults) c.end_without_memory.result
    (g.S.Sink.state c.args.out.now) (g.S.Sink.state c.end_without_memory.new.out) (g.W.Wire.state c.args.wire.now).history
    (g.L.Link.tells c.args.link.now) (g.L.Link.state c.args.link.now)
    (disk_used g.D.Disk.contents g.D.Disk.may_leave g.D.Disk.moment g.D.Disk.left_since g.D.Disk.marked g.D.Disk.fault_count c.args.disk.now c.args.disk.now)
    (keeper_used g.K.Keeper.state c.args.keeper.now c.args.keeper.now)
    (g.met.D.Disk.only_now c.args.disk.now, refl) c.end_without_memory.ensures.memory c.end_without_memory.ensures.line

pub returns-in-Ok-Some-clause-migrated : goal.returns-in-Ok-Some-clause-migrated
returns-in-Ok-Some-clause-migrated g c =
    of_task (length (g.G.Sources.waves c.args.signals)) (asked_task (map string_bytes c.args.words.now)) (Some c.in-Ok-Some.task) c.run_task.result
    (g.F.Files.state c.args.files.now).held (g.S.Sink.state c.args.out.now) (g.S.Sink.state c.run_task.new.out)
    (sym c.in-Ok-Some.ensures.asked ∙ c.in-Ok-Some.field-0-is) c.run_task.ensures.migrated

pub returns-in-Ok-None-clause-migrated : goal.returns-in-Ok-None-clause-migrated
returns-in-Ok-None-clause-migrated g c =
    of_task (length (g.G.Sources.waves c.args.signals)) (asked_task (map string_bytes c.args.words.now)) None c.print_and_end.result
    (g.F.Files.state c.args.files.now).held (g.S.Sink.state c.args.out.now) (g.S.Sink.state c.print_and_end.new.out)
    (sym c.in-Ok-None.ensures.asked ∙ c.in-Ok-None.field-0-is) tt

pub returns-in-Err-clause-migrated : goal.returns-in-Err-clause-migrated
returns-in-Err-clause-migrated g c =
    any_without_memory (length (g.G.Sources.waves c.args.signals)) (asked_task (map string_bytes c.args.words.now)) c.end_without_memory.result
    (g.F.Files.state c.args.files.now).held (g.S.Sink.state c.args.out.now) (g.S.Sink.state c.end_without_memory.new.out) c.end_without_memory.ensures.memory

pub returns-in-Ok-Some-clause-opens_store : goal.returns-in-Ok-Some-clause-opens_store
returns-in-Ok-Some-clause-opens_store g c =
    subst (λ t. OpensStore t c.run_task.result (g.D.Disk.names c.args.disk.now) (g.D.Disk.names c.run_task.new.disk))
    (sym (sym c.in-Ok-Some.ensures.asked ∙ c.in-Ok-Some.field-0-is)) c.run_task.ensures.opens_store

pub returns-in-Ok-Some-clause-opens_table : goal.returns-in-Ok-Some-clause-opens_table
returns-in-Ok-Some-clause-opens_table g c =
    subst (λ t. OpensTable t c.run_task.result (g.K.Keeper.state c.args.keeper.now).names (g.K.Keeper.state c.run_task.new.keeper).names)
    (sym (sym c.in-Ok-Some.ensures.asked ∙ c.in-Ok-Some.field-0-is)) c.run_task.ensures.opens_table

pub returns-in-Ok-None-clause-opens_store : goal.returns-in-Ok-None-clause-opens_store
returns-in-Ok-None-clause-opens_store g c =
    subst (λ t. OpensStore t c.print_and_end.result (g.D.Disk.names c.args.disk.now) (g.D.Disk.names c.args.disk.now))
    (sym (sym c.in-Ok-None.ensures.asked ∙ c.in-Ok-None.field-0-is)) tt

pub returns-in-Ok-None-clause-opens_table : goal.returns-in-Ok-None-clause-opens_table
returns-in-Ok-None-clause-opens_table g c =
    subst (λ t. OpensTable t c.print_and_end.result (g.K.Keeper.state c.args.keeper.now).names (g.K.Keeper.state c.args.keeper.now).names)
    (sym (sym c.in-Ok-None.ensures.asked ∙ c.in-Ok-None.field-0-is)) tt

pub returns-in-Err-clause-opens_store : goal.returns-in-Err-clause-opens_store
returns-in-Err-clause-opens_store g c =
    store_wanting (asked_task (map string_bytes c.args.words.now)) c.end_without_memory.result _ _ c.end_without_memory.ensures.memory refl

pub returns-in-Err-clause-opens_table : goal.returns-in-Err-clause-opens_table
returns-in-Err-clause-opens_table g c =
    table_wanting (asked_task (map string_bytes c.args.words.now)) c.end_without_memory.result _ _ c.end_without_memory.ensures.memory refl
