use Rattle.notify_table.proofs.TableLemmas.{reloaded_granted, reloaded_table, table_holds}
use Rattle.notify_table.proofs.watches.Watches.moved.Goals as goal

pub invariant_of-self : goal.invariant_of-self
invariant_of-self c =
    rw c.settle_all.ensures (reloaded_granted c.args.m.now c.args.ports.now c.self.inside.schedule c.self.inside.granted c.self.invariant)

pub returns-clause-watches : goal.returns-clause-watches
returns-clause-watches c =
    rw (← c.self.view_is, c.settle_all.ensures) (reloaded_table c.args.m.now c.args.ports.now c.self.inside.schedule c.self.inside.granted)

pub returns-clause-table : goal.returns-clause-table
returns-clause-table c = rw (← c.self.view_is) (table_holds c.self.inside.schedule c.self.inside.granted c.self.invariant)

pub returns-in_err-ended-clause-table : goal.returns-in_err-ended-clause-table
returns-in_err-ended-clause-table c = rw (← c.self.view_is) (table_holds c.self.inside.schedule c.self.inside.granted c.self.invariant)
