use Rattle.spec_laws.proofs.Risen.{handles_rise}
use Rattle.spec_laws.proofs.handles_rise.Goals as goal

pub returns : goal.returns
returns c = handles_rise
