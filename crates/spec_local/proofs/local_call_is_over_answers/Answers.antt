use Rattle.spec_local.proofs.LocalOver.{local_is_over}
use Rattle.spec_local.proofs.local_call_is_over_answers.Goals as goal

pub returns : goal.returns
returns g c = local_is_over
