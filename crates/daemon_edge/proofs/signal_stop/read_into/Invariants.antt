-- What is filled lies within the buffer.
use Rattle.std.proofs.Common.{◌≤◌, length}
use Rattle.daemon_edge.proofs.signal_stop.read_into.Given as goal

abbrev pub invariant-loop : goal.invariant-loop
invariant-loop g l = l.filled ≤ length l.buffer
