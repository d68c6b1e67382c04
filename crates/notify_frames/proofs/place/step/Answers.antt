use Rattle.std.proofs.Common.{sym, ◌∙◌}
use Rattle.notify_frames.proofs.Left.{left_in-last}
use Rattle.notify_frames.proofs.place.step.Goals as goal

pub returns-then-place-eq0 : goal.returns-then-place-eq0
returns-then-place-eq0 c = sym c.loop-place.invariant ∙ left_in-last c.loop-place.place.time c.loop-place.place.samples c.loop-place.place.stamps
    c.loop-place.place.bytes.now c.loop-place-test.true c.if-place-eq0.true
