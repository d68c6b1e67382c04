use Rattle.std.proofs.Common.{ℕ, List, sym, subst}
use Rattle.ads_served.specs.Due.{LeavesOutIdle}
use Rattle.ads_served.proofs.DueLemmas.{leaves_out_idle}
use Rattle.server_core.specs.Serves.{CoreView, StandsAt}
use Rattle.server_core.proofs.TakingLemmas.{on_ok}
use Rattle.server_core.proofs.core_for_loop.CoreServed.due.Goals as goal

pub returns-clause-due : goal.returns-clause-due
returns-clause-due g c = on_ok c.due.result (λ e. λ x s.
    subst (λ (ns : List ℕ). LeavesOutIdle x.running ns) (sym (e x.running s.serves)) (leaves_out_idle x.running)) c.due.ensures.due

pub returns-clause-stays : goal.returns-clause-stays
returns-clause-stays g c = on_ok c.due.result (λ same. λ x s. subst (λ (v : CoreView). StandsAt v x) (sym same) s) c.due.ensures.stays
