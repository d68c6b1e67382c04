use Rattle.spec_store.proofs.SaveLemmas.{closed_gate_may_open}
use Rattle.spec_store.proofs.closed_gate_may_open.Goals as goal

pub returns : goal.returns
returns c = closed_gate_may_open
