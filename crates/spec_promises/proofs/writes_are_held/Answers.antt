use Rattle.spec_promises.proofs.Promised.{server_holds_writes}
use Rattle.spec_promises.proofs.writes_are_held.Goals as goal

pub returns : goal.returns
returns c = server_holds_writes
