use Rattle.spec_promises.proofs.Lives.{server_notifies}
use Rattle.spec_promises.proofs.notifications_are_given.Goals as goal

pub returns : goal.returns
returns c = server_notifies
