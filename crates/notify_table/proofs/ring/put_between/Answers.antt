use Rattle.notify_table.proofs.TurnLemmas.{in_turn-insert}
use Rattle.notify_table.proofs.ring.put_between.Goals as goal

pub returns-clause-in_turn : goal.returns-clause-in_turn
returns-clause-in_turn c =
    rw c.put_at.ensures (in_turn-insert c.args.one c.args.ring.now.items c.place_of-place.result c.requires.handle c.requires.in_turn
    (rw (← c.next.ensures, ← c.handle.ensures) c.place_of-place.ensures))
