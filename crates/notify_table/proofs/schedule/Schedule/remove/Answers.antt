use Rattle.notify_table.proofs.ScheduleLemmas.{in_turn-remove}
use Rattle.notify_table.proofs.schedule.Schedule.remove.Goals as goal

pub invariant_of-self : goal.invariant_of-self
invariant_of-self c =
    rw c.take_record.ensures.items (in_turn-remove c.self.inside.ring.items c.args.at (rw c.self.view_is c.requires) c.self.invariant)
