-- The recursion goes down the number.
use Rattle.symbol_table.proofs.parts.+skip.Given as goal

abbrev pub decreases-skip : goal.decreases-skip
decreases-skip l = l.count
