use Rattle.std.proofs.Common.{◌≡◌}
use Rattle.ads_edge.proofs.connection.came_over.Given as goal

-- no call changes the socket's value
abbrev pub invariant-loop : goal.invariant-loop
invariant-loop l = l.stream ≡ l.initial.stream
