use Rattle.std.proofs.Common.{◌≡◌, Some, false, sym, subst}
use Rattle.connections.specs.Outlets.{Outlets, outlet_at, is_closing}
use Rattle.connections.proofs.OutletLemmas.{read_at, read_absent}
use Rattle.connections.proofs.outlets.Outlets.is_to_be_shut.Goals as goal

pub returns-in-Some : goal.returns-in-Some
returns-in-Some c =
    let o = c.index-outlet.result.now in
    sym (read_at is_closing false c.args.self.now c.args.number c.in-Some.i o c.in-Some.ensures.found
    (subst (λ (es : Outlets). outlet_at es c.in-Some.i ≡ Some o) c.self.view_is c.index-outlet.ensures))

pub returns-in-None : goal.returns-in-None
returns-in-None c = sym (read_absent is_closing false c.args.self.now c.args.number c.in-None.ensures.absent)
