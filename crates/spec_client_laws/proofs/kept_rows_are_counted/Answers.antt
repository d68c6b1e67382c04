use Rattle.spec_client_laws.proofs.KeptLemmas.{keeps_counted}
use Rattle.spec_client_laws.proofs.kept_rows_are_counted.Goals as goal

pub returns : goal.returns
returns c = keeps_counted
