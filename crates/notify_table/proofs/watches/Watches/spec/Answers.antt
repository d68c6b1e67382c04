use Rattle.std.proofs.Common.{refl, sym, ◌∙◌}
use Rattle.notify_table.proofs.TableLemmas.{found, missing, table_holds}
use Rattle.notify_table.proofs.watches.Watches.spec.Goals as goal

pub returns-in_err-at-clause-spec : goal.returns-in_err-at-clause-spec
returns-in_err-at-clause-spec c =
    rw (
      ← c.self.view_is,
      missing c.self.inside.schedule c.self.inside.granted c.args.handle (sym c.find.ensures ∙ c.in_err-at.was),
      c.from_residual.ensures,
    ) refl

pub returns-clause-spec : goal.returns-clause-spec
returns-clause-spec c =
    let f = found c.self.inside.schedule c.self.inside.granted c.args.handle c.in_ok-at.at c.self.invariant (sym c.in_ok-at.ensures) in
    rw (← c.self.view_is, f.live, ← c.spec.ensures, f.numbered) refl

pub returns-in_err-at-clause-table : goal.returns-in_err-at-clause-table
returns-in_err-at-clause-table c = rw (← c.self.view_is) (table_holds c.self.inside.schedule c.self.inside.granted c.self.invariant)

pub returns-clause-table : goal.returns-clause-table
returns-clause-table c = rw (← c.self.view_is) (table_holds c.self.inside.schedule c.self.inside.granted c.self.invariant)
