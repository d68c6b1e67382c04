use Rattle.std.proofs.Common.{◌≤◌, length}
use Rattle.ads_edge.proofs.real_files.read_all.Given as goal

-- what was read keeps the limit
abbrev pub invariant-loop : goal.invariant-loop
invariant-loop g l = length l.bytes ≤ 16777216
