-- How the run ended says why, and what a play promises is proved of every script.
use Rattle.std.proofs.Common.{map}
use Rattle.std.specs.Prelude.{string_bytes}
use Rattle.spec_relay.proofs.PromiseLemmas.{relay_play_keeps_promises}
use Rattle.ads_outside.specs.Rose.{Rose}
use Rattle.run_tasks.specs.Tasks.{asked_task}
use Rattle.ads_run.specs.Uses.{disk_used, uses}
use Rattle.client_commands.specs.CallUses.{keeper_used, link_used}
use Rattle.ads_run.proofs.CauseLemmas.{facts_of}
use Rattle.ads_run.proofs.RunLaws.{run_has_cause}
use Rattle.ads_run.proofs.StoreLemmas.{store_fault, keeper_fault}
use Rattle.plant_commands.proofs.PromiseLemmas.{play_keeps_promises}
use Rattle.ads_run.proofs.top_call.run.Goals as goal

pub returns-clause-usage : goal.returns-clause-usage
returns-clause-usage g c =
    (facts_of (g.F.Files.state c.args.files.now).held (g.G.Sources.waves c.args.signals) (asked_task (map string_bytes c.args.words.now))
    (Rose (g.F.Files.state c.args.files.now).faults (g.F.Files.state c.run_words-status.new.files).faults) c.run_words-status.result
    (uses (g.S.Sink.state c.args.out.now) (g.S.Sink.state c.run_words-status.new.out)
    (g.W.Wire.state c.args.wire.now).history (g.W.Wire.state c.run_words-status.new.wire).history
    (link_used g.L.Link.tells g.L.Link.state c.args.link.now c.run_words-status.new.link)
    (disk_used g.D.Disk.contents g.D.Disk.may_leave g.D.Disk.moment g.D.Disk.left_since g.D.Disk.marked g.D.Disk.fault_count c.args.disk.now
    c.run_words-status.new.disk)
    (keeper_used g.K.Keeper.state c.args.keeper.now c.run_words-status.new.keeper)) c.run_words-status.ensures.ends).usage

pub returns-clause-write_fault : goal.returns-clause-write_fault
returns-clause-write_fault g c =
    (facts_of (g.F.Files.state c.args.files.now).held (g.G.Sources.waves c.args.signals) (asked_task (map string_bytes c.args.words.now))
    (Rose (g.F.Files.state c.args.files.now).faults (g.F.Files.state c.run_words-status.new.files).faults) c.run_words-status.result
    (uses (g.S.Sink.state c.args.out.now) (g.S.Sink.state c.run_words-status.new.out)
    (g.W.Wire.state c.args.wire.now).history (g.W.Wire.state c.run_words-status.new.wire).history
    (link_used g.L.Link.tells g.L.Link.state c.args.link.now c.run_words-status.new.link)
    (disk_used g.D.Disk.contents g.D.Disk.may_leave g.D.Disk.moment g.D.Disk.left_since g.D.Disk.marked g.D.Disk.fault_count c.args.disk.now
    c.run_words-status.new.disk)
    (keeper_used g.K.Keeper.state c.args.keeper.now c.run_words-status.new.keeper)) c.run_words-status.ensures.ends).write_fault

pub returns-clause-store_fault : goal.returns-clause-store_fault
returns-clause-store_fault g c =
    let u = uses (g.S.Sink.state c.args.out.now) (g.S.Sink.state c.run_words-status.new.out)
    (g.W.Wire.state c.args.wire.now).history (g.W.Wire.state c.run_words-status.new.wire).history
    (link_used g.L.Link.tells g.L.Link.state c.args.link.now c.run_words-status.new.link)
    (disk_used g.D.Disk.contents g.D.Disk.may_leave g.D.Disk.moment g.D.Disk.left_since g.D.Disk.marked g.D.Disk.fault_count c.args.disk.now
    c.run_words-status.new.disk)
    (keeper_used g.K.Keeper.state c.args.keeper.now c.run_words-status.new.keeper) in
    store_fault (asked_task (map string_bytes c.args.words.now)) c.run_words-status.result u
    (run_has_cause (g.G.Sources.waves c.args.signals) (map string_bytes c.args.words.now) c.run_words-status.result
    (g.F.Files.state c.args.files.now) (g.F.Files.state c.run_words-status.new.files) u c.run_words-status.ensures.ends)

pub returns-clause-keeper_fault : goal.returns-clause-keeper_fault
returns-clause-keeper_fault g c =
    let u = uses (g.S.Sink.state c.args.out.now) (g.S.Sink.state c.run_words-status.new.out)
    (g.W.Wire.state c.args.wire.now).history (g.W.Wire.state c.run_words-status.new.wire).history
    (link_used g.L.Link.tells g.L.Link.state c.args.link.now c.run_words-status.new.link)
    (disk_used g.D.Disk.contents g.D.Disk.may_leave g.D.Disk.moment g.D.Disk.left_since g.D.Disk.marked g.D.Disk.fault_count c.args.disk.now
    c.run_words-status.new.disk)
    (keeper_used g.K.Keeper.state c.args.keeper.now c.run_words-status.new.keeper) in
    keeper_fault (asked_task (map string_bytes c.args.words.now)) c.run_words-status.result u
    (run_has_cause (g.G.Sources.waves c.args.signals) (map string_bytes c.args.words.now) c.run_words-status.result
    (g.F.Files.state c.args.files.now) (g.F.Files.state c.run_words-status.new.files) u c.run_words-status.ensures.ends)

pub returns-clause-relayed : goal.returns-clause-relayed
returns-clause-relayed g c = λ d lines. relay_play_keeps_promises d lines

pub returns-clause-promises : goal.returns-clause-promises
returns-clause-promises g c = λ d lines. play_keeps_promises d _ lines
