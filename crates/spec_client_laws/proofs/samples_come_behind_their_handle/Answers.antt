use Rattle.spec_client_laws.proofs.HandleLemmas.{prints_given_samples}
use Rattle.spec_client_laws.proofs.samples_come_behind_their_handle.Goals as goal

pub returns : goal.returns
returns c = prints_given_samples
