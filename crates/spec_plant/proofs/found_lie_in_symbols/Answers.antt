use Rattle.spec_plant.proofs.FoundLemmas.{found_lie_in_symbols}
use Rattle.spec_plant.proofs.found_lie_in_symbols.Goals as goal

pub returns : goal.returns
returns c = found_lie_in_symbols
