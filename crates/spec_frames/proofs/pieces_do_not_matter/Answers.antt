use Rattle.spec_frames.proofs.Laws.{grows}
use Rattle.spec_frames.proofs.pieces_do_not_matter.Goals as goal

pub returns : goal.returns
returns c = grows
