use Rattle.spec_client.proofs.Hearings as lemmas
use Rattle.spec_client.proofs.hearings_fall.Goals as goal

pub returns : goal.returns
returns c = lemmas.hearings_fall
