use Rattle.spec_store.proofs.SaveLemmas.{save_survives}
use Rattle.spec_store.proofs.save_survives.Goals as goal

pub returns : goal.returns
returns c = save_survives
