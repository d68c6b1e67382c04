use Rattle.std.proofs.Common.{◌≡◌, ◌-◌, ◌≤◌, ◌++◌, length, take, drop}
use Rattle.std.specs.List.{filter_map}
use Rattle.spec_machine.specs.Watches.{watch_after_reload}
use Rattle.notify_table.specs.Reloads.{watched_after}
use Rattle.notify_table.proofs.schedule.Schedule.settle_all.Given as goal

-- what those so far became, and what the others become
abbrev pub invariant-loop-at : goal.invariant-loop-at
invariant-loop-at l = record {
  within : l.at ≤ length l.self;
  left : take l.at l.self ++ filter_map (watch_after_reload (watched_after l.m l.ports)) (drop l.at l.self)
      ≡ filter_map (watch_after_reload (watched_after l.m l.ports)) l.initial.self;
}

abbrev pub decreases-loop-at : goal.decreases-loop-at
decreases-loop-at l = length l.self - l.at
