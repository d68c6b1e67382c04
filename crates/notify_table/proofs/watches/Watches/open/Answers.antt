use Rattle.notify_table.proofs.TableLemmas.{table_holds}
use Rattle.notify_table.proofs.watches.Watches.open.Goals as goal

pub returns-in-Ok-clause-table : goal.returns-in-Ok-clause-table
returns-in-Ok-clause-table c = rw (← c.self.view_is) (table_holds c.self.inside.schedule c.self.inside.granted c.self.invariant)

pub returns-in-Err-clause-table : goal.returns-in-Err-clause-table
returns-in-Err-clause-table c = rw (← c.self.view_is) (table_holds c.self.inside.schedule c.self.inside.granted c.self.invariant)
