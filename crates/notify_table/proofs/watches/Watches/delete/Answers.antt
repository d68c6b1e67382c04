use Rattle.std.proofs.Common.{◌≡◌, refl, sym, ap, ◌∙◌, true, false}
use Rattle.std.proofs.lemmas.Bool.{ne_eqb, eq-eqb, false≢true}
use Rattle.spec_machine.specs.WatchedRanges.{Watched}
use Rattle.spec_machine.specs.Watches.{Watch}
use Rattle.notify_table.specs.Table.{is_live}
use Rattle.notify_table.proofs.TableLemmas.{found, missing_live, found_live, removed_granted, removed_table}
use Rattle.notify_table.proofs.watches.Watches.delete.Goals as goal

pub returns-in_default-clause-live : goal.returns-in_default-clause-live
returns-in_default-clause-live c =
    let dead : is_live c.args.port c.args.handle c.args.self.now ≡ false =
    rw (← c.self.view_is) (missing_live c.self.inside.schedule c.self.inside.granted c.args.handle c.args.port (sym c.find.ensures ∙ c.in_default.is)) in
    (λ e. absurd (false≢true e), λ live. sym dead ∙ live)

pub returns-then-spec-port-clause-live : goal.returns-then-spec-port-clause-live
returns-then-spec-port-clause-live c =
    let f = found c.self.inside.schedule c.self.inside.granted c.args.handle c.in-Some.at c.self.invariant (sym c.in-Some.ensures) in
    let dead : is_live c.args.port c.args.handle c.args.self.now ≡ false =
    rw (← c.self.view_is) (found_live c.self.inside.schedule c.self.inside.granted c.args.handle c.in-Some.at c.args.port f
    ∙ ne_eqb _ _ (λ e. c.if-spec-port.true (ap (λ (w : Watch Watched). w.port) c.spec.ensures ∙ e))) in
    (λ e. absurd (false≢true e), λ live. sym dead ∙ live)

pub invariant_of-self : goal.invariant_of-self
invariant_of-self c =
    let f = found c.self.inside.schedule c.self.inside.granted c.args.handle c.in-Some.at c.self.invariant (sym c.in-Some.ensures) in
    rw c.remove.ensures (removed_granted c.self.inside.schedule c.self.inside.granted c.args.handle c.in-Some.at c.self.invariant f)

pub returns-clause-live : goal.returns-clause-live
returns-clause-live c =
    let f = found c.self.inside.schedule c.self.inside.granted c.args.handle c.in-Some.at c.self.invariant (sym c.in-Some.ensures) in
    let live : is_live c.args.port c.args.handle c.args.self.now ≡ true =
    rw (← c.self.view_is) (found_live c.self.inside.schedule c.self.inside.granted c.args.handle c.in-Some.at c.args.port f
    ∙ eq-eqb _ _ (sym (ap (λ (w : Watch Watched). w.port) c.spec.ensures) ∙ c.if-spec-port.false)) in
    (λ e. live, λ e. refl)

pub returns-clause-ok : goal.returns-clause-ok
returns-clause-ok c =
    let f = found c.self.inside.schedule c.self.inside.granted c.args.handle c.in-Some.at c.self.invariant (sym c.in-Some.ensures) in
    rw (c.remove.ensures, ← c.self.view_is) (removed_table c.self.inside.schedule c.self.inside.granted c.args.handle c.in-Some.at f)
