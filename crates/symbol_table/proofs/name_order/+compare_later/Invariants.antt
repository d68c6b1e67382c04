-- The recursion goes down the identifiers.
use Rattle.std.proofs.Common.{length}
use Rattle.symbol_table.proofs.name_order.+compare_later.Given as goal

abbrev pub decreases-compare_later : goal.decreases-compare_later
decreases-compare_later l = length l.identifiers.now
