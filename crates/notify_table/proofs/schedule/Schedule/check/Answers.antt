use Rattle.notify_table.proofs.ScheduleLemmas.{in_turn-remove}
use Rattle.notify_table.proofs.schedule.Schedule.check.Goals as goal

pub put_record-requires-clause-in_turn : goal.put_record-requires-clause-in_turn
put_record-requires-clause-in_turn c =
    rw c.take_record-record.ensures.items (in_turn-remove c.self.inside.ring.items c.args.at (rw c.self.view_is c.requires.there) c.self.invariant)
