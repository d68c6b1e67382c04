-- One offer behind a run and others.
use Rattle.std.proofs.Common.{◌∙◌}
use Rattle.std.proofs.Math.Nat.{le_trans}
use Rattle.serve_loop.proofs.LeadLemmas.{leads_then, breaks_here, on_err}
use Rattle.serve_loop.proofs.ServeLemmas.{begins_begins, begins_ends, begins_all}
use Rattle.serve_loop.proofs.WantLemmas.{rose_later}
use Rattle.serve_loop.proofs.offers.offer_all.Goals as goal

pub loop-init : goal.loop-init
loop-init g c = record {
  led = c.offer_run.ensures.led;
  kept = c.offer_run.ensures.kept;
  later = c.offer_run.ensures.later;
  wanted = c.offer_run.ensures.wanted;
}

pub returns-in_err-offer_one-clause-no_memory : goal.returns-in_err-offer_one-clause-no_memory
returns-in_err-offer_one-clause-no_memory g c =
    on_err _ (breaks_here _ _ _ _ _ _ _ _ _ (λ x ms begins. begins.offers) c.loop.invariant.led c.in_err-offer_one.ensures.no_memory.same)

pub returns-in_err-offer_one-clause-memory : goal.returns-in_err-offer_one-clause-memory
returns-in_err-offer_one-clause-memory g c = on_err _ (rose_later _ _ _ c.loop.invariant.wanted c.in_err-offer_one.ensures.no_memory.wanted)

pub loop-preserved : goal.loop-preserved
loop-preserved g c = record {
  led = leads_then _ _ _ _ _ _ _ _ 0 0 _ _ _ (begins_begins _ _) c.loop.invariant.led (rw c.in-Taken.is at c.in_ok-offer_one.ensures.ok);
  kept = c.offer_one.ensures.kept ∙ c.loop.invariant.kept;
  later = le_trans c.loop.invariant.later c.offer_one.ensures.later;
  wanted = le_trans c.loop.invariant.wanted c.offer_one.ensures.wanted;
}

pub returns-in-Lost-clause-ok : goal.returns-in-Lost-clause-ok
returns-in-Lost-clause-ok g c = leads_then _ _ _ _ _ _ _ _ 0 0 _ _ _ (begins_ends _ _) c.loop.invariant.led (rw c.in-Lost.is at c.in_ok-offer_one.ensures.ok)

pub returns-in-Nothing-clause-ok : goal.returns-in-Nothing-clause-ok
returns-in-Nothing-clause-ok g c =
    leads_then _ _ _ _ _ _ _ _ 0 0 _ _ _ (begins_all _ _) c.loop.invariant.led (rw c.in-Nothing.is at c.in_ok-offer_one.ensures.ok)
