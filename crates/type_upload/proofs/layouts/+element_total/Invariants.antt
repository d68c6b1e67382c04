-- The recursion goes down the bounds.
use Rattle.std.proofs.Common.{length}
use Rattle.type_upload.proofs.layouts.+element_total.Given as goal

abbrev pub decreases-element_total : goal.decreases-element_total
decreases-element_total l = length l.bounds.now
