use Rattle.std.proofs.Common.{◌≡◌, ◌++◌, length}
use Rattle.std.specs.Prelude.{map}
use Rattle.client_core.specs.Samples.{stamped}
use Rattle.client_core.proofs.samples.copied.Given as goal

abbrev pub invariant-loop-time : goal.invariant-loop-time
invariant-loop-time l = l.samples.items ++ map stamped l.notes ≡ map stamped l.fn.notes

abbrev pub decreases-loop-time : goal.decreases-loop-time
decreases-loop-time l = length l.notes
