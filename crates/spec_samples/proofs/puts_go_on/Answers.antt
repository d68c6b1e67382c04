use Rattle.spec_samples.proofs.RowLemmas.{puts_go_on}
use Rattle.spec_samples.proofs.puts_go_on.Goals as goal

pub returns : goal.returns
returns c = puts_go_on
