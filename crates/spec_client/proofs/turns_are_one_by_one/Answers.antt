use Rattle.spec_client.proofs.TurnsUnfolded.{turns_unfold}
use Rattle.spec_client.proofs.turns_are_one_by_one.Goals as goal

pub returns : goal.returns
returns c = turns_unfold
