-- The recursion goes down the steps.
use Rattle.std.proofs.Common.{length}
use Rattle.symbol_table.proofs.parts.+part_behind.Given as goal

abbrev pub decreases-part_behind : goal.decreases-part_behind
decreases-part_behind l = length l.steps.now
