use Rattle.std.proofs.Common.{◌∙◌, ap}
use Rattle.notify_table.specs.Rounds.{RoundState}
use Rattle.notify_table.proofs.RoundLemmas.{all_made, round_in_turn, turned_table, turned_granted}
use Rattle.notify_table.proofs.round.Round.into_schedule.Goals as goal

pub of_ring-requires : goal.of_ring-requires
of_ring-requires c =
    round_in_turn c.self.inside.ring.items c.rotate_left.new.self.items c.self.inside.moment c.self.inside.due
    (all_made c.self.inside c.args.self c.self.view_is c.self.invariant c.requires) c.rotate_left.ensures.items

pub returns-clause-table : goal.returns-clause-table
returns-clause-table c =
    rw (c.of_ring.ensures, c.rotate_left.ensures.items)
    (turned_table c.self.inside.ring.items c.self.inside.granted c.self.inside.due c.self.invariant.granted
    ∙ ap (λ (s : RoundState). s.table) c.self.view_is)

pub returns-clause-granted : goal.returns-clause-granted
returns-clause-granted c =
    rw (c.of_ring.ensures, c.rotate_left.ensures.items)
    (turned_granted c.self.inside.ring.items c.self.inside.granted c.self.inside.due c.self.invariant.granted)
