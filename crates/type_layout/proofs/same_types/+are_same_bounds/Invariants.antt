-- The recursion goes down the bounds.
use Rattle.std.proofs.Common.{length}
use Rattle.type_layout.proofs.same_types.+are_same_bounds.Given as goal

abbrev pub decreases-are_same_bounds : goal.decreases-are_same_bounds
decreases-are_same_bounds l = length l.bs.now
