use Rattle.std.proofs.Common.{◌≡◌, ◌+◌, ◌-◌, ◌<◌, arith, get_or, length, sym, ◌∙◌}
use Rattle.std.proofs.lemmas.List.{get_or_default}
use Rattle.spec_machine.specs.WatchedRanges.{Watched}
use Rattle.spec_machine.specs.Watches.{Watch}
use Rattle.notify_table.proofs.RoundLemmas.{one_more_rises}
use Rattle.notify_table.proofs.going_round.rise_together.Goals as goal

pub loop-i-preserved : goal.loop-i-preserved
loop-i-preserved c =
    let within : c.loop-i.i < length c.args.ring.now.items = omega (arith, c.args.ring.now.ok.0) in
    let same : c.loop-i.i + 1 - 1 ≡ c.loop-i.i = omega arith in
    record {
      some = omega arith;
      handle = λ d. rw (same, get_or_default c.args.ring.now.items c.loop-i.i d c.index-record.result.now within, ← c.index-record.ensures)
          c.handle-next.ensures;
      cycle = λ d. rw (same, get_or_default c.args.ring.now.items c.loop-i.i d c.index-record.result.now within, ← c.index-record.ensures)
          c.cycle-next_cycle.ensures;
      rises = one_more_rises c.args.ring.now.items c.loop-i.i c.loop-i.handle c.loop-i.cycle c.index-record.result.now c.loop-i.invariant.rises
          c.loop-i.invariant.some within c.loop-i.invariant.handle c.loop-i.invariant.cycle c.index-record.ensures
          (omega (arith, c.handle-next.ensures)) (omega (arith, c.cycle-next_cycle.ensures));
    }
