use Rattle.std.proofs.Common.{◌≡◌, ◌-◌, ◌<◌, slice_index_or}
use Rattle.spec_machine.specs.WatchedRanges.{Watched}
use Rattle.spec_machine.specs.Watches.{Watch}
use Rattle.notify_table.specs.InPlace.{RiseUpTo}
use Rattle.notify_table.proofs.going_round.rise_together.Given as goal

-- all so far rise, and the handle and the cycle of the last of them are known
abbrev pub invariant-loop-i : goal.invariant-loop-i
invariant-loop-i l = record {
  some : 0 < l.i;
  handle : (d : Watch Watched) → l.handle ≡ (slice_index_or l.ring.items (l.i - 1) d).handle;
  cycle : (d : Watch Watched) → l.cycle ≡ (slice_index_or l.ring.items (l.i - 1) d).cycle;
  rises : RiseUpTo l.ring.items l.i;
}
