use Rattle.std.proofs.Common.{◌≤◌}
use Rattle.real_disk.proofs.real_disk.fill.Given as goal

-- no more came than there is room for
abbrev pub invariant-loop : goal.invariant-loop
invariant-loop g l = l.len ≤ l.room
