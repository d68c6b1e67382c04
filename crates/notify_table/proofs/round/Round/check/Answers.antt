use Rattle.std.proofs.Common.{◌+◌, map, take, set, sym, subst, ap, ◌∙◌}
use Rattle.spec_machine.specs.WatchedRanges.{Watched}
use Rattle.spec_machine.specs.Watches.{Watch}
use Rattle.notify_table.specs.Table.{handle_of}
use Rattle.notify_table.specs.Numbered.{table_from}
use Rattle.notify_table.specs.Rounds.{HasNext, RoundState, round_after}
use Rattle.notify_table.proofs.RoundLemmas.{next_len, next_sent, next_turns, next_granted, next_round}
use Rattle.notify_table.proofs.round.Round.check.Goals as goal

pub check-sent-requires : goal.check-sent-requires
check-sent-requires c =
    next_len c.self.inside c.index_mut.result.now c.self.invariant (subst HasNext (sym c.self.view_is) c.requires.next) c.index_mut.ensures.value
    c.args.bytes.now (rw (← c.self.view_is) at c.requires.due)

pub invariant_of-self : goal.invariant_of-self
invariant_of-self c =
    let next = subst HasNext (sym c.self.view_is) c.requires.next in
    let asked = rw (← c.self.view_is) at c.requires.due in
    record {
      turns = rw c.check-sent.ensures.new
          (next_turns c.self.inside c.index_mut.result.now c.self.invariant next c.index_mut.ensures.value c.args.bytes.now asked);
      granted = rw c.check-sent.ensures.new
          (next_granted c.self.inside c.index_mut.result.now c.self.invariant next c.index_mut.ensures.value c.args.bytes.now asked);
    }

pub returns-clause-sent : goal.returns-clause-sent
returns-clause-sent c =
    rw (← c.self.view_is)
    (next_sent c.self.inside c.index_mut.result.now c.self.invariant (subst HasNext (sym c.self.view_is) c.requires.next) c.index_mut.ensures.value
    c.args.bytes.now (rw (← c.self.view_is) at c.requires.due) c.check-sent.result c.check-sent.ensures.sent)

pub returns-clause-new : goal.returns-clause-new
returns-clause-new c =
    let next = subst HasNext (sym c.self.view_is) c.requires.next in
    let asked = rw (← c.self.view_is) at c.requires.due in
    let made : Watch Watched → RoundState = λ w. record {
      table = table_from (set c.self.inside.ring.items c.self.inside.made w) c.self.inside.granted;
      handles = map handle_of (take c.self.inside.due (set c.self.inside.ring.items c.self.inside.made w));
      moment = c.self.inside.moment;
      made = c.self.inside.made + 1;
    } in
    ap made c.check-sent.ensures.new
    ∙ (next_round c.self.inside c.index_mut.result.now c.self.invariant next c.index_mut.ensures.value c.args.bytes.now asked
    ∙ ap (round_after c.args.bytes.now) c.self.view_is)
