-- The events of the lines before this one are counted.
use Rattle.std.proofs.Common.{◌≡◌, ◌≤◌, ℕ, take, map}
use Rattle.replay_script.specs.Script.{line_meant, event_count}
use Rattle.replay_script.proofs.script.Script.events.Given as goal

-- as many as the lines so far have, and no more than there are
pub record Counted (events index so_far : ℕ) : Type 0 where
  pub is : events ≡ so_far
  pub few : events ≤ index

abbrev pub invariant-loop-line : goal.invariant-loop-line
invariant-loop-line l = Counted l.events l.line-index (event_count (map line_meant (take l.line-index l.line-items)))
