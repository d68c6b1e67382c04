use Rattle.spec_frames.proofs.Laws.{has_one_division}
use Rattle.spec_frames.proofs.one_division.Goals as goal

pub returns : goal.returns
returns c = has_one_division
