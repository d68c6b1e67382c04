use Rattle.std.proofs.Common.{◌≡◌, Some, None, sym, ap, ◌∙◌, subst}
use Rattle.std.specs.Prelude.{option_copied}
use Rattle.connections.specs.Outlets.{Outlets, outlet_at, offer_of_outlet}
use Rattle.connections.proofs.OutletLemmas.{read_at, read_absent}
use Rattle.connections.proofs.outlets.Outlets.offer_of.Goals as goal

pub returns-in_err-i-clause-offer : goal.returns-in_err-i-clause-offer
returns-in_err-i-clause-offer c =
    ap option_copied c.from_residual.ensures ∙ sym (read_absent offer_of_outlet None c.args.self.now c.args.number c.in_err-i.ensures.absent)

pub returns-clause-offer : goal.returns-clause-offer
returns-clause-offer c =
    let o = c.index-outlet.result.now in
    c.offer.ensures.offer ∙ sym (read_at offer_of_outlet None c.args.self.now c.args.number c.in_ok-i.i o c.in_ok-i.ensures.found
    (subst (λ (es : Outlets). outlet_at es c.in_ok-i.i ≡ Some o) c.self.view_is c.index-outlet.ensures))
