-- The recursion goes down the steps.
use Rattle.std.proofs.Common.{length}
use Rattle.symbol_table.proofs.spelled.+append_steps.Given as goal

abbrev pub decreases-append_steps : goal.decreases-append_steps
decreases-append_steps l = length l.steps.now
