-- The recording over the link to the core is the local one.
use Rattle.std.proofs.Common.{refl, ap, ◌∙◌, List, ℕ}
use Rattle.spec_formats.specs.Header.{AmsAddress}
use Rattle.run_tasks.specs.RecordAsked.{local_recording}
use Rattle.client_commands.specs.Between.{recording_between}
use Rattle.client_commands.specs.CallUses.{keeper_used}
use Rattle.client_commands.proofs.CallLemmas.{same_calling}
use Rattle.client_commands.proofs.FitLemmas.{recording_fits}
use Rattle.client_commands.proofs.RecordLemmas.{recording_not_before}
use Rattle.client_commands.proofs.RecordLocalLemmas.{local_recording_ends}
use Rattle.client_commands.proofs.record_locally.record_link.Goals as goal

pub returns-clause-ends : goal.returns-clause-ends
returns-clause-ends g c = λ d waves told net.
    let at : List ℕ → AmsAddress = λ n. record { net = n; port = c.args.what.now.client.port } in
    local_recording_ends (local_recording d waves c.args.what.now)
    (recording_fits d waves c.args.what.now _ c.requires.what net c.call_addrs-addrs.ensures.own_fits c.call_addrs-addrs.ensures.asked_fits)
    _ (recording_between c.args.what.now c.call_addrs-addrs.result _) c.record_over.result _ _
    (g.S.Sink.state c.args.out.now) (g.S.Sink.state c.record_over.new.out)
    (keeper_used g.K.Keeper.state c.args.keeper.now c.record_over.new.keeper)
    (λ n. same_calling _ _ _ _ _ _ _ _ c.call_addrs-addrs.ensures.own (c.call_addrs-addrs.ensures.asked ∙ ap at net) refl refl)
    (λ n. told) c.record_over.ensures.ends

pub returns-clause-run : goal.returns-clause-run
returns-clause-run g c = λ before.
    recording_not_before (recording_between c.args.what.now c.call_addrs-addrs.result _) c.record_over.result (g.S.Sink.state c.args.out.now)
    (g.S.Sink.state c.record_over.new.out) _ (keeper_used g.K.Keeper.state c.args.keeper.now c.record_over.new.keeper) c.record_over.ensures.ends before
