-- the entries that are left become fewer
use Rattle.std.proofs.Common.{length}
use Rattle.daemon_entries.proofs.counting.count_left.Given as goal

abbrev pub decreases-loop-entry : goal.decreases-loop-entry
decreases-loop-entry l = length l.left
