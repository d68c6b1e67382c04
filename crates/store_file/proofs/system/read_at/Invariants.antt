use Rattle.std.proofs.Common.{◌≤◌}
use Rattle.store_file.proofs.system.read_at.Given as goal

-- no more came than there is room for
abbrev pub invariant-loop : goal.invariant-loop
invariant-loop l = l.len ≤ l.room
