-- The link or the description that the words name.
use Rattle.std.proofs.Common.{refl, subst, sym}
use Rattle.ads_outside.specs.Rose.{Rose}
use Rattle.client_loop.specs.Called.{Calling}
use Rattle.run_tasks.specs.BeforeRun.{IsBeforeRun}
use Rattle.client_commands.specs.Between.{asking_between}
use Rattle.client_commands.specs.Calling.{EndsCall}
use Rattle.client_commands.specs.CallUses.{link_used}
use Rattle.client_commands.proofs.AskLemmas.{asks_from}
use Rattle.client_commands.proofs.CallLemmas.{call_not_before, same_calling}
use Rattle.cli_words.specs.declared.client_words.PeerWords.TheVariants as peer
use Rattle.client_commands.proofs.asking.ask.Goals as goal

pub returns-in-To-clause-ends : goal.returns-in-To-clause-ends
returns-in-To-clause-ends g c =
    let s = c.ask_over.result in
    let out = g.S.Sink.state c.args.out.now in
    let out_new = g.S.Sink.state c.ask_over.new.out in
    let link = link_used g.L.Link.tells g.L.Link.state c.args.link.now c.ask_over.new.link in
    asks_from (g.F.Files.state c.args.files.now).held (g.G.Sources.waves c.args.signals) c.args.what.now c.args.client.now c.args.client.now.peer
    (peer.To c.in-To.to c.in-To.net) (Rose (g.F.Files.state c.args.files.now).faults (g.F.Files.state c.args.files.now).faults) s out out_new link c.in-To.is
    (subst (λ (x : Calling). EndsCall x s out out_new link)
    (same_calling _ _ _ _ _ _ _ _ c.call_addrs-addrs.ensures.own c.call_addrs-addrs.ensures.asked refl c.as_str.ensures) c.ask_over.ensures.ends)

pub returns-in-To-clause-before_run : goal.returns-in-To-clause-before_run
returns-in-To-clause-before_run g c = λ before. absurd
    (call_not_before (asking_between c.args.what.now c.call_addrs-addrs.result c.as_str.result.now) c.ask_over.result (g.S.Sink.state c.args.out.now)
    (g.S.Sink.state c.ask_over.new.out) (link_used g.L.Link.tells g.L.Link.state c.args.link.now c.ask_over.new.link) c.ask_over.ensures.ends before)

pub returns-in-To-clause-read_fault : goal.returns-in-To-clause-read_fault
returns-in-To-clause-read_fault g c = λ is. absurd
    (call_not_before (asking_between c.args.what.now c.call_addrs-addrs.result c.as_str.result.now) c.ask_over.result (g.S.Sink.state c.args.out.now)
    (g.S.Sink.state c.ask_over.new.out) (link_used g.L.Link.tells g.L.Link.state c.args.link.now c.ask_over.new.link) c.ask_over.ensures.ends
    (subst IsBeforeRun (sym is) tt))

pub returns-in-Local-clause-ends : goal.returns-in-Local-clause-ends
returns-in-Local-clause-ends g c =
    asks_from (g.F.Files.state c.args.files.now).held (g.G.Sources.waves c.args.signals) c.args.what.now c.args.client.now c.args.client.now.peer
    (peer.Local c.in-Local.description) (Rose (g.F.Files.state c.args.files.now).faults (g.F.Files.state c.ask_locally.new.files).faults)
    c.ask_locally.result (g.S.Sink.state c.args.out.now) (g.S.Sink.state c.ask_locally.new.out)
    (link_used g.L.Link.tells g.L.Link.state c.args.link.now c.args.link.now) c.in-Local.is c.ask_locally.ensures.ends
