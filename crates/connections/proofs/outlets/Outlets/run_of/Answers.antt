use Rattle.std.proofs.Common.{◌≡◌, Some, None, sym, ap, ◌∙◌, subst}
use Rattle.std.specs.List.{concat}
use Rattle.std.specs.Prelude.{option_copied, option_map}
use Rattle.connections.specs.Outlets.{Outlets, outlet_at, run_of_outlet}
use Rattle.connections.proofs.OutletLemmas.{read_at, read_absent}
use Rattle.connections.proofs.outlets.Outlets.run_of.Goals as goal

pub returns-in_err-i-clause-run : goal.returns-in_err-i-clause-run
returns-in_err-i-clause-run c =
    ap option_copied c.from_residual.ensures
    ∙ sym (ap (λ o. option_map concat o) (read_absent run_of_outlet None c.args.self.now c.args.number c.in_err-i.ensures.absent))

pub returns-clause-run : goal.returns-clause-run
returns-clause-run c =
    let o = c.index-outlet.result.now in
    c.run.ensures.run ∙ sym (ap (λ p. option_map concat p) (read_at run_of_outlet None c.args.self.now c.args.number c.in_ok-i.i o c.in_ok-i.ensures.found
    (subst (λ (es : Outlets). outlet_at es c.in_ok-i.i ≡ Some o) c.self.view_is c.index-outlet.ensures)))
