-- By induction over the spans.
use Rattle.process_image.proofs.Walked.{outside-walked}
use Rattle.process_image.proofs.parts.all_else_stays.Goals as goal

pub returns : goal.returns
returns c = λ bytes spans parts k walk fit out. outside-walked bytes spans parts 0 k walk fit out
