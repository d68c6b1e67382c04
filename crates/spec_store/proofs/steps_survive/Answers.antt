use Rattle.spec_store.proofs.SaveLemmas.{steps_survive}
use Rattle.spec_store.proofs.steps_survive.Goals as goal

pub returns : goal.returns
returns c = steps_survive
