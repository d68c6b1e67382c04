use Rattle.spec_laws.proofs.Histories.{handles_are_history}
use Rattle.spec_laws.proofs.handles_are_history.Goals as goal

pub returns : goal.returns
returns c = handles_are_history
