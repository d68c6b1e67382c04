use Rattle.std.proofs.Common.{ℕ, List, refl, sym, subst, ap, take}
use Rattle.spec_machine.specs.WatchedRanges.{Watched}
use Rattle.spec_machine.specs.Watches.{Watch}
use Rattle.notify_table.specs.Numbered.{AreGranted, table_from}
use Rattle.notify_table.specs.Rounds.{RoundState}
use Rattle.notify_table.proofs.RoundLemmas.{round_handles, round_handles_rise}
use Rattle.notify_table.proofs.schedule.Schedule.into_round.Goals as goal

pub returns-clause-rising : goal.returns-clause-rising
returns-clause-rising c = round_handles_rise (take c.count_due-due.result c.self.inside.ring.items) (c.if-not-go_round.ensures.rise refl)

pub returns-clause-round : goal.returns-clause-round
returns-clause-round c =
    let ws : List (Watch Watched) = c.self.inside.ring.items in
    let granted = subst (λ (vs : List (Watch Watched)). AreGranted vs c.args.granted) (sym c.self.view_is) c.requires in
    rw (← c.self.view_is)
    (ap (λ (hs : List ℕ). let s : RoundState = record { table = table_from ws c.args.granted; handles = hs; moment = c.args.now; made = 0 } in s)
    (round_handles ws c.args.granted c.args.now c.count_due-due.result granted c.count_due-due.ensures.front (returns-clause-rising c)))
