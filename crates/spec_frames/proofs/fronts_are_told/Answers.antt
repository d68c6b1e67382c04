use Rattle.spec_frames.proofs.Laws.{has_front}
use Rattle.spec_frames.proofs.fronts_are_told.Goals as goal

pub returns : goal.returns
returns c = has_front
