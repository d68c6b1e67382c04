-- An offer is one move, or there is none.
use Rattle.std.proofs.Common.{refl, sym, length, take}
use Rattle.std.proofs.lemmas.List.{length-take-le}
use Rattle.ads_outside.specs.declared.moves.Move.TheVariants as move
use Rattle.serve_loop.proofs.LeadLemmas.{leads_nowhere, leads_one}
use Rattle.serve_loop.proofs.OfferLemmas.{begins_none, begins_took, ends_lost}
use Rattle.serve_loop.proofs.offers.offer_one.Goals as goal

pub returns-in_default-clause-ok : goal.returns-in_default-clause-ok
returns-in_default-clause-ok g c =
    leads_nowhere _ _ _ _ _ _ _ refl (λ x serves. serves)
    (λ x serves. begins_none _ x.running c.args.conn (sym (c.in_default.ensures.machine x serves)))

pub returns-in-Took-clause-ok : goal.returns-in-Took-clause-ok
returns-in-Took-clause-ok g c =
    let left = c.in-Some.left.now in
    let n = c.in-Took.n in
    let fits = c.in-Took.ensures.takes.0 in
    leads_one _ _ _ _ _ _ _ (move.Took c.args.conn (length left) (take n left)) refl c.in-Took.ensures.takes.1
    (λ x serves. c.took.ensures.follows x left (take n left) serves (sym c.in-Some.ensures.offer) (length-take-le n left fits))
    (λ x serves. begins_took _ x.running c.args.conn left n (sym (c.in-Some.ensures.machine x serves)) fits)

pub returns-in-Failed-clause-ok : goal.returns-in-Failed-clause-ok
returns-in-Failed-clause-ok g c =
    leads_one _ _ _ _ _ _ _ (move.Lost c.args.conn) refl c.in-Failed.ensures.takes.0 (λ x serves. c.remove.ensures.lost x serves)
    (λ x serves. ends_lost _ x.running c.args.conn c.in-Some.left.now (sym (c.in-Some.ensures.machine x serves)))
