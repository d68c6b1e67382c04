use Rattle.std.proofs.lemmas.List.{length-map}
use Rattle.notify_table.proofs.ScheduleLemmas.{due_watches}
use Rattle.notify_table.proofs.schedule.Schedule.due.Goals as goal

pub returns-clause-due : goal.returns-clause-due
returns-clause-due g c = rw (← c.self.view_is, due_watches c.args.now c.self.inside.ring.items) c.due_of_ring.ensures.due

pub returns-clause-cost : goal.returns-clause-cost
returns-clause-cost g c = rw (← c.self.view_is, due_watches c.args.now c.self.inside.ring.items, length-map) c.due_of_ring.ensures.cost

pub returns-clause-counted : goal.returns-clause-counted
returns-clause-counted g c = rw (← c.self.view_is, due_watches c.args.now c.self.inside.ring.items, length-map) c.due_of_ring.ensures.counted
