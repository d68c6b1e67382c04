use Rattle.spec_store.proofs.RunLemmas.{saves_survive}
use Rattle.spec_store.proofs.saves_survive.Goals as goal

pub returns : goal.returns
returns c = saves_survive
