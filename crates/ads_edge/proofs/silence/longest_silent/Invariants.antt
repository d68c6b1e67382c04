use Rattle.ads_edge.proofs.SilenceLemmas.{IsLeastSoFar}
use Rattle.ads_edge.proofs.silence.longest_silent.Given as goal

-- the least so far is that of the connection that was found, and none so far is below it
abbrev pub invariant-loop-place : goal.invariant-loop-place
invariant-loop-place l = IsLeastSoFar l.connections l.now l.least l.place l.found
