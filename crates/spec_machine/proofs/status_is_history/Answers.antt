use Rattle.spec_machine.proofs.HandleStatuses.{status_is_history}
use Rattle.spec_machine.proofs.status_is_history.Goals as goal

pub returns : goal.returns
returns g c = status_is_history _
