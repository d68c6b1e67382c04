-- A run is taken whole, or nothing is.
use Rattle.std.proofs.Common.{refl, ap}
use Rattle.ads_outside.specs.WireState.{WireState}
use Rattle.serve_loop.proofs.LeadLemmas.{leads_nowhere}
use Rattle.serve_loop.proofs.RunLemmas.{leads_run}
use Rattle.serve_loop.proofs.ServeLemmas.{begins_nothing}
use Rattle.serve_loop.proofs.offers.offer_run.Goals as goal

pub returns-in_default-clause-led : goal.returns-in_default-clause-led
returns-in_default-clause-led g c =
    leads_nowhere _ _ _ _ _ _ _ refl (λ x serves. serves) (λ x serves. begins_nothing _ c.args.conn x.running)

pub returns-then-offer_run-clause-led : goal.returns-then-offer_run-clause-led
returns-then-offer_run-clause-led g c =
    leads_run _ _ _ _ _ _ c.args.conn c.in-Some.run'.now (g.M.Served.run_in c.args.served.now c.args.conn) c.in-Some.ensures.run
    c.if-offer_run.ensures.takes c.took_run.ensures.follows c.in-Some.ensures.machine

pub returns-else-offer_run-clause-led : goal.returns-else-offer_run-clause-led
returns-else-offer_run-clause-led g c =
    leads_nowhere _ _ _ _ _ _ _ (ap (λ (s : WireState). s.history) c.if-offer_run.ensures.takes) (λ x serves. serves)
    (λ x serves. begins_nothing _ c.args.conn x.running)
