use Rattle.spec_cutting.proofs.JoinedCalls.{answers_may_be_cut}
use Rattle.spec_cutting.proofs.answers_may_be_cut.Goals as goal

pub returns : goal.returns
returns c = answers_may_be_cut
