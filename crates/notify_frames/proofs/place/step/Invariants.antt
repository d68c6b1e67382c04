use Rattle.std.proofs.Common.{◌≡◌}
use Rattle.notify_frames.specs.Place.{left_of}
use Rattle.notify_frames.proofs.place.step.Given as goal

-- what is left stays the same while stamps without samples are passed over
abbrev pub invariant-loop-place : goal.invariant-loop-place
invariant-loop-place l = left_of l.place ≡ left_of l.initial.place

abbrev pub decreases-loop-place : goal.decreases-loop-place
decreases-loop-place l = l.place.stamps
