use Rattle.std.proofs.lemmas.List.{length-map}
use Rattle.notify_table.proofs.ScheduleLemmas.{due_watches}
use Rattle.notify_table.proofs.schedule.Schedule.count_due.Goals as goal

pub returns : goal.returns
returns c = rw (← c.self.view_is, due_watches c.args.now c.self.inside.ring.items, length-map) c.count_due.ensures.count
