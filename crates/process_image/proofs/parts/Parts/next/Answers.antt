-- The walk is that which the loan leaves: only how its spans are known to lie in the image is said otherwise.
use Rattle.std.proofs.Common.{refl}
use Rattle.process_image.proofs.Walks.{same_walk}
use Rattle.process_image.proofs.parts.Parts.next.Goals as goal

pub returns : goal.returns
returns c = ((refl, λ w. same_walk _ _ _ _ _), record { lends = tt; value = c.part_mut.ensures.value })
