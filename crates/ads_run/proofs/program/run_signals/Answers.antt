-- The three signals have the program's waves.
use Rattle.std.proofs.Common.{◌≡◌, rules, refl, map, drop, ap, ◌∙◌, subst, List, ℕ}
use Rattle.std.specs.Prelude.{string_bytes}
use Rattle.signals.specs.Wave.{Wave}
use denote.Param.Object.{read_made}
use Rattle.signals.specs.contracts.ramp.RampSignal.TheImpl as ramp
use Rattle.signals.specs.contracts.square.SquareSignal.TheImpl as square
use Rattle.signals.specs.contracts.table8.Table8Signal.TheImpl as table
use Rattle.ads_run.specs.Program.{RunsWith, words_behind_name}
use Rattle.ads_run.specs.ProgramWaves.{program_waves}
use Rattle.run_tasks.specs.Tasks.{asked_task}
use Rattle.ads_run.specs.Uses.{disk_used, uses}
use Rattle.client_commands.specs.CallUses.{keeper_used, link_used}
use Rattle.ads_run.proofs.SignalLemmas.{three_signals, runs_same}
use Rattle.ads_run.proofs.program.run_signals.OwnLists.{own-1, at-1-1, at-1-2, at-1-3}
use Rattle.ads_run.proofs.program.run_signals.Goals as goal

pub returns-clause-runs : goal.returns-clause-runs
returns-clause-runs g c =
    let waves = three_signals _ c.new-signals.result.items c.push.new.self.items c.push-2.new.self.items c.push-3.new.self.items
    c.into_dyn_box.result c.into_dyn_box-in_ok-new-2.result c.into_dyn_box-in_ok-new-3.result
    ramp.ghosts.wave square.ghosts.wave table.ghosts.wave
    c.in_ok-ramp.field-0.ramp c.in_ok-new.field-0.value c.in_ok-ramp.field-0.square c.in_ok-new-2.field-0.value c.in_ok-ramp.field-0.table
    c.in_ok-new-3.field-0.value
    program_waves c.in_ok-ramp.ensures (search rules) (search rules) (search rules) (search rules)
    (search rules) (search rules) (search rules)
    (read_made own-1 (own-1.entry at-1-1) at-1-1 refl Wave (λ j y. j.1.wave y) c.into_dyn_box.result.vtable c.into_dyn_box.result.value
    c.in_ok-new.field-0.value c.into_dyn_box.ensures.1)
    (read_made own-1 (own-1.entry at-1-2) at-1-2 refl Wave (λ j y. j.1.wave y) c.into_dyn_box-in_ok-new-2.result.vtable
    c.into_dyn_box-in_ok-new-2.result.value c.in_ok-new-2.field-0.value c.into_dyn_box-in_ok-new-2.ensures.1)
    (read_made own-1 (own-1.entry at-1-3) at-1-3 refl Wave (λ j y. j.1.wave y) c.into_dyn_box-in_ok-new-3.result.vtable
    c.into_dyn_box-in_ok-new-3.result.value c.in_ok-new-3.field-0.value c.into_dyn_box-in_ok-new-3.ensures.1) in
    let behind : c.behind_name.result.now ≡ drop 1 c.in_ok-all.all.items = search rules in
    runs_same _ program_waves _ (words_behind_name c.args.words) c.run.result (g.F.Files.state c.args.files.now) (g.F.Files.state c.run.new.files)
    (uses (g.S.Sink.state c.args.out.now) (g.S.Sink.state c.run.new.out)
    (g.W.Wire.state c.args.wire.now).history (g.W.Wire.state c.run.new.wire).history
    (link_used g.L.Link.tells g.L.Link.state c.args.link.now c.run.new.link)
    (disk_used g.D.Disk.contents g.D.Disk.may_leave g.D.Disk.moment g.D.Disk.left_since g.D.Disk.marked g.D.Disk.fault_count c.args.disk.now c.run.new.disk)
    (keeper_used g.K.Keeper.state c.args.keeper.now c.run.new.keeper)) waves
    (ap (map string_bytes) behind ∙ c.in_ok-all.ensures.words)
    (record { ends = c.run.ensures.ends; migrated = c.run.ensures.migrated; promises = c.run.ensures.promises })

pub returns-clause-no_command : goal.returns-clause-no_command
returns-clause-no_command g c = λ none.
    let behind : c.behind_name.result.now ≡ drop 1 c.in_ok-all.all.items = search rules in
    c.run.ensures.no_command (ap (λ texts. asked_task (map string_bytes texts)) behind ∙ (ap asked_task c.in_ok-all.ensures.words ∙ none))
