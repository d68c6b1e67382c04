use Rattle.std.proofs.Common.{sym, ap, ◌∙◌, subst}
use Rattle.std.specs.Prelude.{remove}
use Rattle.connections.specs.Outlets.{Outlets}
use Rattle.connections.specs.Touched.{OthersIdle}
use Rattle.connections.proofs.OutletLemmas.{without_at, without_none}
use Rattle.connections.proofs.TouchedLemmas.{idle_removed}
use Rattle.connections.proofs.outlets.Outlets.end.Goals as goal

pub returns-in_err-i-clause-gone : goal.returns-in_err-i-clause-gone
returns-in_err-i-clause-gone c = sym (without_none c.args.self.now c.args.number c.in_err-i.ensures.absent)

pub invariant_of-self : goal.invariant_of-self
invariant_of-self c =
    let es = c.self.inside.entries.entries in
    let new = c.without-self-inside.result in
    subst (λ (fs : Outlets). OthersIdle new fs) (sym c.shift_remove_index.ensures.entries)
    (idle_removed c.self.inside.touched new es c.in_ok-i.i c.self.invariant c.without-self-inside.ensures.before c.without-self-inside.ensures.behind)

pub returns-clause-gone : goal.returns-clause-gone
returns-clause-gone c =
    c.shift_remove_index.ensures.entries ∙ ap (λ (fs : Outlets). remove fs c.in_ok-i.i) c.self.view_is
    ∙ sym (without_at c.args.self.now c.args.number c.in_ok-i.i c.in_ok-i.ensures.found)
