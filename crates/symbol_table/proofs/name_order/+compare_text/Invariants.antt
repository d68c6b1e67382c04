-- The recursion goes down the text.
use Rattle.std.proofs.Common.{length}
use Rattle.symbol_table.proofs.name_order.+compare_text.Given as goal

abbrev pub decreases-compare_text : goal.decreases-compare_text
decreases-compare_text l = length l.low.now
