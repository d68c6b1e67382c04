-- The task's own run.
use Rattle.std.proofs.Common.{◌≡◌, length, refl}
use Rattle.ads_outside.specs.Named.{bytes_of}
use Rattle.ads_outside.specs.Rose.{Rose}
use Rattle.run_tasks.specs.declared.task.Task.TheVariants as task
use Rattle.plant_commands.specs.Keeping.{EndsKeeping}
use Rattle.plant_commands.specs.Serving.{EndsService}
use Rattle.run_tasks.specs.Service.{OfRelay}
use Rattle.ads_run.specs.Uses.{disk_used, uses}
use Rattle.client_commands.specs.CallUses.{keeper_used, link_used}
use Rattle.run_tasks.specs.Verdict.{Keeps, Serves, over_store, verdict_of_both, verdict_of_file, verdict_of_file_task}
use Rattle.run_tasks.specs.Verdict.{verdict_of_serve, verdict_of_service}
use Rattle.ads_run.proofs.RunLemmas.{asks_as_run, file_as_run, files_as_run, runs_of_task}
use Rattle.ads_run.proofs.RecordRunLemmas.{records_as_run}
use Rattle.ads_run.proofs.top_call.run_task.Goals as goal

pub returns-in-OfFiles-clause-ends : goal.returns-in-OfFiles-clause-ends
returns-in-OfFiles-clause-ends g c =
    let held = (g.F.Files.state c.args.files.now).held in
    let disk = disk_used g.D.Disk.contents g.D.Disk.may_leave g.D.Disk.moment g.D.Disk.left_since g.D.Disk.marked g.D.Disk.fault_count c.args.disk.now
    c.args.disk.now in
    let keeper = keeper_used g.K.Keeper.state c.args.keeper.now c.args.keeper.now in
    let waves = g.G.Sources.waves c.args.signals in
    let failed = Rose (g.F.Files.state c.args.files.now).faults (g.F.Files.state c.print_file_task.new.files).faults in
    let out = g.S.Sink.state c.args.out.now in
    let out_new = g.S.Sink.state c.print_file_task.new.out in
    let wire = (g.W.Wire.state c.args.wire.now).history in
    let u = uses out out_new wire wire (link_used g.L.Link.tells g.L.Link.state c.args.link.now c.args.link.now) disk keeper in
    runs_of_task held waves c.args.task.now (task.OfFiles c.in-OfFiles.task) failed c.print_file_task.result u c.in-OfFiles.is
    (files_as_run Serves (λ x. ⊥) (Unit {0}) held (λ first second. verdict_of_file_task waves c.in-OfFiles.task first second) failed
    c.print_file_task.result u (λ t. refl) (λ x h. absurd h) c.print_file_task.ensures.ends)

pub returns-in-Serve-clause-ends : goal.returns-in-Serve-clause-ends
returns-in-Serve-clause-ends g c =
    let held = (g.F.Files.state c.args.files.now).held in
    let disk = disk_used g.D.Disk.contents g.D.Disk.may_leave g.D.Disk.moment g.D.Disk.left_since g.D.Disk.marked g.D.Disk.fault_count c.args.disk.now
    c.args.disk.now in
    let keeper = keeper_used g.K.Keeper.state c.args.keeper.now c.args.keeper.now in
    let waves = g.G.Sources.waves c.args.signals in
    let failed = Rose (g.F.Files.state c.args.files.now).faults (g.F.Files.state c.serve.new.files).faults in
    let out = g.S.Sink.state c.args.out.now in
    let out_new = g.S.Sink.state c.serve.new.out in
    let wire = (g.W.Wire.state c.args.wire.now).history in
    let wire_new = (g.W.Wire.state c.serve.new.wire).history in
    let u = uses out out_new wire wire_new (link_used g.L.Link.tells g.L.Link.state c.args.link.now c.args.link.now) disk keeper in
    runs_of_task held waves c.args.task.now (task.Serve c.in-Serve.description c.in-Serve.listen c.in-Serve.events) failed c.serve.result u c.in-Serve.is
    (file_as_run Serves (λ x. EndsService x c.serve.result out out_new wire wire_new) (wire_new ≡ wire) held
    (λ files. verdict_of_file (verdict_of_serve waves c.in-Serve.description c.in-Serve.listen c.in-Serve.events)
    (bytes_of files c.in-Serve.description)) failed c.serve.result u (λ same. same) (λ x h. h) c.serve.ensures.ends)

pub returns-in-RelayServe-clause-ends : goal.returns-in-RelayServe-clause-ends
returns-in-RelayServe-clause-ends g c =
    let held = (g.F.Files.state c.args.files.now).held in
    let disk = disk_used g.D.Disk.contents g.D.Disk.may_leave g.D.Disk.moment g.D.Disk.left_since g.D.Disk.marked g.D.Disk.fault_count c.args.disk.now
    c.args.disk.now in
    let keeper = keeper_used g.K.Keeper.state c.args.keeper.now c.args.keeper.now in
    let waves = g.G.Sources.waves c.args.signals in
    let failed = Rose (g.F.Files.state c.args.files.now).faults (g.F.Files.state c.serve_relay.new.files).faults in
    let out = g.S.Sink.state c.args.out.now in
    let out_new = g.S.Sink.state c.serve_relay.new.out in
    let wire = (g.W.Wire.state c.args.wire.now).history in
    let wire_new = (g.W.Wire.state c.serve_relay.new.wire).history in
    let u = uses out out_new wire wire_new (link_used g.L.Link.tells g.L.Link.state c.args.link.now c.args.link.now) disk keeper in
    runs_of_task held waves c.args.task.now (task.RelayServe c.in-RelayServe.description c.in-RelayServe.listen c.in-RelayServe.events) failed
    c.serve_relay.result u c.in-RelayServe.is
    (file_as_run Serves (λ x. EndsService x c.serve_relay.result out out_new wire wire_new) (wire_new ≡ wire) held
    (λ files. verdict_of_file (verdict_of_service (length waves) OfRelay c.in-RelayServe.description
    c.in-RelayServe.listen c.in-RelayServe.events) (bytes_of files c.in-RelayServe.description)) failed c.serve_relay.result u (λ same. same) (λ x h. h)
    c.serve_relay.ensures.ends)

pub returns-in-Ask-clause-ends : goal.returns-in-Ask-clause-ends
returns-in-Ask-clause-ends g c =
    let held = (g.F.Files.state c.args.files.now).held in
    let disk = disk_used g.D.Disk.contents g.D.Disk.may_leave g.D.Disk.moment g.D.Disk.left_since g.D.Disk.marked g.D.Disk.fault_count c.args.disk.now
    c.args.disk.now in
    let keeper = keeper_used g.K.Keeper.state c.args.keeper.now c.args.keeper.now in
    let waves = g.G.Sources.waves c.args.signals in
    let failed = Rose (g.F.Files.state c.args.files.now).faults (g.F.Files.state c.ask.new.files).faults in
    let wire = (g.W.Wire.state c.args.wire.now).history in
    let link = link_used g.L.Link.tells g.L.Link.state c.args.link.now c.ask.new.link in
    runs_of_task held waves c.args.task.now (task.Ask c.in-Ask.what c.in-Ask.client) failed c.ask.result
    (uses (g.S.Sink.state c.args.out.now) (g.S.Sink.state c.ask.new.out) wire wire link disk keeper) c.in-Ask.is
    (asks_as_run held waves c.in-Ask.what c.in-Ask.client c.in-Ask.client.peer failed c.ask.result
    (g.S.Sink.state c.args.out.now) (g.S.Sink.state c.ask.new.out) wire link disk keeper c.ask.ensures.ends)

pub returns-in-Keep-clause-ends : goal.returns-in-Keep-clause-ends
returns-in-Keep-clause-ends g c =
    let held = (g.F.Files.state c.args.files.now).held in
    let disk = disk_used g.D.Disk.contents g.D.Disk.may_leave g.D.Disk.moment g.D.Disk.left_since g.D.Disk.marked g.D.Disk.fault_count c.args.disk.now
    c.keep.new.disk in
    let keeper = keeper_used g.K.Keeper.state c.args.keeper.now c.args.keeper.now in
    let waves = g.G.Sources.waves c.args.signals in
    let failed = Rose (g.F.Files.state c.args.files.now).faults (g.F.Files.state c.keep.new.files).faults in
    let out = g.S.Sink.state c.args.out.now in
    let out_new = g.S.Sink.state c.keep.new.out in
    let wire = (g.W.Wire.state c.args.wire.now).history in
    let link = link_used g.L.Link.tells g.L.Link.state c.args.link.now c.args.link.now in
    let u = uses out out_new wire wire link disk keeper in
    runs_of_task held waves c.args.task.now (task.Keep c.in-Keep.description c.in-Keep.script c.in-Keep.store) failed c.keep.result u c.in-Keep.is
    (files_as_run Keeps (λ x. EndsKeeping x c.keep.result out out_new disk) (Unit {0}) held
    (verdict_of_both (length waves) (over_store waves) c.in-Keep.description c.in-Keep.script) failed c.keep.result u (λ t. refl) (λ x h. (h, refl))
    c.keep.ensures.ends)

pub returns-in-Record-clause-ends : goal.returns-in-Record-clause-ends
returns-in-Record-clause-ends g c =
    let held = (g.F.Files.state c.args.files.now).held in
    let disk = disk_used g.D.Disk.contents g.D.Disk.may_leave g.D.Disk.moment g.D.Disk.left_since g.D.Disk.marked g.D.Disk.fault_count c.args.disk.now
    c.args.disk.now in
    let keeper = keeper_used g.K.Keeper.state c.args.keeper.now c.record.new.keeper in
    let waves = g.G.Sources.waves c.args.signals in
    let failed = Rose (g.F.Files.state c.args.files.now).faults (g.F.Files.state c.record.new.files).faults in
    let wire = (g.W.Wire.state c.args.wire.now).history in
    let link = link_used g.L.Link.tells g.L.Link.state c.args.link.now c.record.new.link in
    runs_of_task held waves c.args.task.now (task.Record c.in-Record.what) failed c.record.result
    (uses (g.S.Sink.state c.args.out.now) (g.S.Sink.state c.record.new.out) wire wire link disk keeper) c.in-Record.is
    (records_as_run held waves c.in-Record.what c.in-Record.what.client.peer failed c.record.result
    (g.S.Sink.state c.args.out.now) (g.S.Sink.state c.record.new.out) wire link disk keeper c.record.ensures.ends)
