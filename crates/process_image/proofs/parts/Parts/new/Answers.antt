-- Spans that rise within the image lie in it.
use Rattle.process_image.proofs.Walks.{IsWalk-AreWithin}
use Rattle.process_image.proofs.parts.Parts.new.Goals as goal

pub invariant_of-result : goal.invariant_of-result
invariant_of-result c = record { within = IsWalk-AreWithin c.args.spans.now 0 _ c.requires }
