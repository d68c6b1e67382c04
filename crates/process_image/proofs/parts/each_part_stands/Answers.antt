-- By induction over the spans.
use Rattle.process_image.proofs.Walked.{StandIn-walked}
use Rattle.process_image.proofs.parts.each_part_stands.Goals as goal

pub returns : goal.returns
returns c = λ bytes spans parts walk fit. StandIn-walked bytes spans parts 0 walk fit
