use Rattle.client_core.specs.Kept.{bytes_left}
use Rattle.client_core.specs.Hears.{StandsStill}
use Rattle.client_core.proofs.client.Client.hear_frames.Given as goal

abbrev pub invariant-loop-heard : goal.invariant-loop-heard
invariant-loop-heard l = StandsStill l.fn.self l.self

abbrev pub decreases-loop-heard : goal.decreases-loop-heard
decreases-loop-heard l = bytes_left l.self
