use Rattle.std.proofs.Common.{◌≡◌}
use Rattle.ads_edge.proofs.peers.Peers.send_all.Given as goal

-- what is to be read stays as it is
abbrev pub invariant-loop : goal.invariant-loop
invariant-loop l = (l.self.to_read.items ≡ l.initial.self.to_read.items) × (l.self.turns ≡ l.initial.self.turns)
