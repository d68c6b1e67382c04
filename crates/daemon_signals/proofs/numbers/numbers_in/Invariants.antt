use Rattle.std.proofs.Common.{◌≤◌}
use Rattle.daemon_signals.proofs.numbers.numbers_in.Given as goal

-- the line begins before here
abbrev pub invariant-loop-end : goal.invariant-loop-end
invariant-loop-end l = l.start ≤ l.«end»
