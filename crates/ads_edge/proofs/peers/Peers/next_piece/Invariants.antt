use Rattle.std.proofs.Common.{◌≤◌}
use Rattle.ads_edge.proofs.peers.Peers.next_piece.Given as goal

-- turns are only used up
abbrev pub invariant-loop : goal.invariant-loop
invariant-loop l = l.self.turns ≤ l.initial.self.turns
