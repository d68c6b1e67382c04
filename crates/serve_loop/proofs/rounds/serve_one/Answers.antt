-- The offers of a connection, and its end.
use Rattle.std.proofs.Common.{◌≡◌, false, refl, sym, ◌∙◌}
use Rattle.ads_outside.specs.declared.moves.Move.TheVariants as move
use Rattle.spec_machine.specs.Running.{is_to_be_shut_at}
use Rattle.serve_loop.proofs.LeadLemmas.{leads_one, leads_then, leads_so, breaks_here}
use Rattle.serve_loop.proofs.ServeLemmas.{IsShutting, ends_there, ends_open, ends_shut, leads_seen}
use Rattle.serve_loop.proofs.WantLemmas.{rose_later}
use Rattle.serve_loop.proofs.rounds.serve_one.Goals as goal

-- the connection is lost
pub returns-then-branch-clause-ok : goal.returns-then-branch-clause-ok
returns-then-branch-clause-ok g c =
    leads_so _ _ _ _ _ _ _ _ _ (ends_there _ _) (rw c.if-branch.true at c.in_ok-offer_all.ensures.ok)

pub returns-then-not-closing-clause-ok : goal.returns-then-not-closing-clause-ok
returns-then-not-closing-clause-ok g c =
    leads_seen _ _ _ _ _ _ _ _ _ (λ y. is_to_be_shut_at c.args.conn y ≡ false) (ends_open _ _)
    (rw c.if-branch.false at c.in_ok-offer_all.ensures.ok)
    (λ y serves. sym (c.closing.ensures y serves) ∙ c.if-not-closing.true)

pub returns-in-Done-clause-ok : goal.returns-in-Done-clause-ok
returns-in-Done-clause-ok g c =
    leads_then _ _ _ _ _ _ _ _ 0 0 _ (λ y ms. IsShutting c.args.conn y ms) _ (ends_shut _ _)
    (rw c.if-branch.false at c.in_ok-offer_all.ensures.ok)
    (leads_one _ _ _ _ _ _ _ (move.Shut c.args.conn) refl c.in-Done.ensures.shuts (λ x serves. c.remove.ensures.shut x serves)
    (λ x serves. record { is = refl; closing = sym (c.closing.ensures x serves) ∙ c.if-not-closing.false }))

pub returns-in-Memory-clause-no_memory : goal.returns-in-Memory-clause-no_memory
returns-in-Memory-clause-no_memory g c =
    breaks_here _ _ _ _ _ _ _ _ _ (λ x ms all. all.begins.offers) (rw c.if-branch.false at c.in_ok-offer_all.ensures.ok) c.in-Memory.ensures.shuts.same

pub returns-in-Memory-clause-memory : goal.returns-in-Memory-clause-memory
returns-in-Memory-clause-memory g c = rose_later _ _ _ c.offer_all.ensures.wanted c.in-Memory.ensures.shuts.wanted
