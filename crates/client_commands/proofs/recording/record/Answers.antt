-- The link or the description that the words name.
use Rattle.ads_outside.specs.Rose.{Rose}
use Rattle.std.proofs.Common.{refl}
use Rattle.cli_words.specs.declared.client_words.PeerWords.TheVariants as peer
use Rattle.run_tasks.specs.RecordAsked.{recording_to}
use Rattle.client_commands.specs.Between.{recording_between}
use Rattle.client_commands.specs.CallUses.{keeper_used, link_used}
use Rattle.client_commands.proofs.CallLemmas.{same_calling}
use Rattle.client_commands.proofs.RecordLemmas.{records_from, recorded_same, recording_not_before, recording_reads_well}
use Rattle.client_commands.proofs.recording.record.Goals as goal

pub returns-in-To-clause-ends : goal.returns-in-To-clause-ends
returns-in-To-clause-ends g c =
    let s = c.record_over.result in
    let out = g.S.Sink.state c.args.out.now in
    let out_new = g.S.Sink.state c.record_over.new.out in
    let link = link_used g.L.Link.tells g.L.Link.state c.args.link.now c.record_over.new.link in
    let keeper = keeper_used g.K.Keeper.state c.args.keeper.now c.record_over.new.keeper in
    records_from (g.F.Files.state c.args.files.now).held (g.G.Sources.waves c.args.signals) c.args.what.now c.args.what.now.client.peer
    (peer.To c.in-To.to c.in-To.net) (Rose (g.F.Files.state c.args.files.now).faults (g.F.Files.state c.args.files.now).faults) s out out_new link keeper
    c.in-To.is (recorded_same (recording_between c.args.what.now c.call_addrs-addrs.result c.as_str.result.now)
    (recording_to c.args.what.now c.in-To.net c.in-To.to) s out out_new link keeper
    (λ n. same_calling _ _ _ _ _ _ _ _ c.call_addrs-addrs.ensures.own c.call_addrs-addrs.ensures.asked refl c.as_str.ensures) c.record_over.ensures.ends)

pub returns-in-To-clause-before_run : goal.returns-in-To-clause-before_run
returns-in-To-clause-before_run g c = λ before. absurd
    (recording_not_before (recording_between c.args.what.now c.call_addrs-addrs.result c.as_str.result.now) c.record_over.result (g.S.Sink.state c.args.out.now)
    (g.S.Sink.state c.record_over.new.out) (link_used g.L.Link.tells g.L.Link.state c.args.link.now c.record_over.new.link)
    (keeper_used g.K.Keeper.state c.args.keeper.now c.record_over.new.keeper) c.record_over.ensures.ends before)

pub returns-in-To-clause-read_fault : goal.returns-in-To-clause-read_fault
returns-in-To-clause-read_fault g c = λ is. absurd
    (recording_reads_well (recording_between c.args.what.now c.call_addrs-addrs.result c.as_str.result.now) c.record_over.result (g.S.Sink.state c.args.out.now)
    (g.S.Sink.state c.record_over.new.out) (link_used g.L.Link.tells g.L.Link.state c.args.link.now c.record_over.new.link)
    (keeper_used g.K.Keeper.state c.args.keeper.now c.record_over.new.keeper) c.record_over.ensures.ends is)

pub returns-in-Local-clause-ends : goal.returns-in-Local-clause-ends
returns-in-Local-clause-ends g c =
    records_from (g.F.Files.state c.args.files.now).held (g.G.Sources.waves c.args.signals) c.args.what.now c.args.what.now.client.peer
    (peer.Local c.in-Local.description) (Rose (g.F.Files.state c.args.files.now).faults (g.F.Files.state c.record_locally.new.files).faults)
    c.record_locally.result (g.S.Sink.state c.args.out.now) (g.S.Sink.state c.record_locally.new.out)
    (link_used g.L.Link.tells g.L.Link.state c.args.link.now c.args.link.now)
    (keeper_used g.K.Keeper.state c.args.keeper.now c.record_locally.new.keeper) c.in-Local.is c.record_locally.ensures.ends
