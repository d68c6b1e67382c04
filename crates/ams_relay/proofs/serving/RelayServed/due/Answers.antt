use Rattle.std.proofs.Common.{sym, subst, ◌∙◌}
use Rattle.ads_served.specs.Due.{LeavesOutIdle}
use Rattle.ads_served.proofs.DueLemmas.{leaves_out_idle}
use Rattle.connections.proofs.ReadLemmas.{due_are}
use Rattle.ams_relay.proofs.serving.RelayServed.due.Goals as goal

pub returns-in-Ok-clause-due : goal.returns-in-Ok-clause-due
returns-in-Ok-clause-due c = λ x s.
    subst (LeavesOutIdle x.running) (sym (c.in-Ok.ensures ∙ due_are c.args.self.now.router.outlets x.running s.holds.outlets)) (leaves_out_idle x.running)
