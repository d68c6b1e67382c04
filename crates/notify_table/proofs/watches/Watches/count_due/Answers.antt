use Rattle.notify_table.proofs.TableLemmas.{due_count}
use Rattle.notify_table.proofs.watches.Watches.count_due.Goals as goal

pub returns : goal.returns
returns c = rw (← c.self.view_is, due_count c.args.now c.self.inside.schedule c.self.inside.granted c.self.invariant) c.count_due.ensures
