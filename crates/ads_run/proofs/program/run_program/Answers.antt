-- The run came to what `run` says; or memory was wanting, and nothing but the sink was called.
use Rattle.std.proofs.Common.{ap, length}
use Rattle.ads_outside.specs.Rose.{Rose}
use Rattle.spec_relay.proofs.PromiseLemmas.{relay_play_keeps_promises}
use Rattle.ads_run.specs.Program.{words_behind_name}
use Rattle.ads_run.specs.ProgramWaves.{program_waves}
use Rattle.run_tasks.specs.Tasks.{asked_task}
use Rattle.ads_run.specs.Uses.{disk_used}
use Rattle.client_commands.specs.CallUses.{keeper_used}
use Rattle.run_tasks.specs.Verdict.{verdict_of}
use Rattle.plant_commands.proofs.KeepLemmas.{untouched_same}
use Rattle.run_tasks.proofs.OpenLemmas.{store_wanting, table_wanting}
use Rattle.plant_commands.proofs.MigrationLemmas.{any_without_memory}
use Rattle.plant_commands.proofs.PromiseLemmas.{play_keeps_promises}
use Rattle.ads_run.proofs.RunLemmas.{runs_untouched}
use Rattle.ads_run.proofs.program.run_program.Goals as goal

pub returns-in-Ok-clause-ends : goal.returns-in-Ok-clause-ends
returns-in-Ok-clause-ends g c = c.in-Ok.ensures.runs.ends

pub returns-in-Ok-clause-migrated : goal.returns-in-Ok-clause-migrated
returns-in-Ok-clause-migrated g c = c.in-Ok.ensures.runs.migrated

pub returns-in-Ok-clause-promises : goal.returns-in-Ok-clause-promises
returns-in-Ok-clause-promises g c = c.in-Ok.ensures.runs.promises

pub returns-in-Err-clause-ends : goal.returns-in-Err-clause-ends
returns-in-Err-clause-ends g c =
    runs_untouched (g.F.Files.state c.args.files.now).held (λ first second. verdict_of program_waves (words_behind_name c.args.words) first second)
    (Rose (g.F.Files.state c.args.files.now).faults (g.F.Files.state c.run_signals.new.files).faults) c.end_without_memory.result
    g.S.Sink.state c.args.out.now c.run_signals.new.out (g.S.Sink.state c.end_without_memory.new.out)
    (λ w. (g.W.Wire.state w).history) c.args.wire.now c.run_signals.new.wire
    g.L.Link.tells g.L.Link.state c.args.link.now c.run_signals.new.link
    (disk_used g.D.Disk.contents g.D.Disk.may_leave g.D.Disk.moment g.D.Disk.left_since g.D.Disk.marked g.D.Disk.fault_count c.args.disk.now
    c.run_signals.new.disk)
    (keeper_used g.K.Keeper.state c.args.keeper.now c.run_signals.new.keeper) (
      untouched_same g.D.Disk.may_leave g.D.Disk.moment g.D.Disk.left_since g.met.D.Disk.only_now c.args.disk.now c.run_signals.new.disk
          c.in-Err.ensures.no_memory.4,
      ap g.K.Keeper.state c.in-Err.ensures.no_memory.5,
    )
    c.end_without_memory.ensures.memory c.end_without_memory.ensures.line
    c.in-Err.ensures.no_memory.3 c.in-Err.ensures.no_memory.1 c.in-Err.ensures.no_memory.2

pub returns-in-Err-clause-migrated : goal.returns-in-Err-clause-migrated
returns-in-Err-clause-migrated g c =
    any_without_memory (length program_waves) (asked_task (words_behind_name c.args.words)) c.end_without_memory.result
    (g.F.Files.state c.args.files.now).held (g.S.Sink.state c.args.out.now) (g.S.Sink.state c.end_without_memory.new.out) c.end_without_memory.ensures.memory

pub returns-in-Err-clause-promises : goal.returns-in-Err-clause-promises
returns-in-Err-clause-promises g c = λ d lines. play_keeps_promises d program_waves lines

pub returns-in-Ok-clause-relayed : goal.returns-in-Ok-clause-relayed
returns-in-Ok-clause-relayed g c = λ d lines. relay_play_keeps_promises d lines

pub returns-in-Err-clause-relayed : goal.returns-in-Err-clause-relayed
returns-in-Err-clause-relayed g c = λ d lines. relay_play_keeps_promises d lines

pub returns-in-Err-clause-opens_store : goal.returns-in-Err-clause-opens_store
returns-in-Err-clause-opens_store g c =
    store_wanting (asked_task (words_behind_name c.args.words)) c.end_without_memory.result _ _ c.end_without_memory.ensures.memory
    (ap g.D.Disk.names c.in-Err.ensures.no_memory.4)

pub returns-in-Err-clause-opens_table : goal.returns-in-Err-clause-opens_table
returns-in-Err-clause-opens_table g c =
    table_wanting (asked_task (words_behind_name c.args.words)) c.end_without_memory.result _ _ c.end_without_memory.ensures.memory
    (ap (λ k. (g.K.Keeper.state k).names) c.in-Err.ensures.no_memory.5)
