-- The call over the link to the core is the local one.
use Rattle.std.proofs.Common.{refl, ap, ◌∙◌, List, ℕ}
use Rattle.spec_formats.specs.Header.{AmsAddress}
use Rattle.run_tasks.specs.Asking.{local_calling}
use Rattle.client_commands.specs.Between.{asking_between}
use Rattle.client_commands.proofs.CallLemmas.{call_not_before, same_calling}
use Rattle.client_commands.proofs.FitLemmas.{calling_fits}
use Rattle.client_commands.proofs.LocalLemmas.{local_ends}
use Rattle.client_commands.proofs.ask_locally.ask_link.Goals as goal

pub returns-clause-ends : goal.returns-clause-ends
returns-clause-ends g c = λ d waves told net.
    let at : List ℕ → AmsAddress = λ n. record { net = n; port = c.args.client.now.port } in
    local_ends (local_calling d waves c.args.what.now c.args.client.now)
    (calling_fits d waves c.args.what.now c.args.client.now _ c.requires.what net c.call_addrs-addrs.ensures.own_fits
    c.call_addrs-addrs.ensures.asked_fits)
    _ (asking_between c.args.what.now c.call_addrs-addrs.result _) c.ask_over.result _ _ (g.S.Sink.state c.args.out.now) (g.S.Sink.state c.ask_over.new.out)
    (same_calling _ _ _ _ _ _ _ _ c.call_addrs-addrs.ensures.own (c.call_addrs-addrs.ensures.asked ∙ ap at net) refl refl)
    told c.ask_over.ensures.ends

pub returns-clause-run : goal.returns-clause-run
returns-clause-run g c = λ before.
    call_not_before (asking_between c.args.what.now c.call_addrs-addrs.result _) c.ask_over.result (g.S.Sink.state c.args.out.now)
    (g.S.Sink.state c.ask_over.new.out) _ c.ask_over.ensures.ends before
