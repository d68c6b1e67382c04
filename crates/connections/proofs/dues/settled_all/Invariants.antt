use Rattle.std.proofs.Common.{◌≡◌, ◌<◌, ℕ, false}
use Rattle.connections.specs.Touched.{due_at}
use Rattle.connections.proofs.dues.settled_all.Given as goal

-- none so far is due
abbrev pub invariant-loop-i : goal.invariant-loop-i
invariant-loop-i l = (k : ℕ) → k < l.i → due_at l.entries.entries k ≡ false
