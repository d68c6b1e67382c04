use Rattle.spec_promises.proofs.KeptReads.{server_keeps_handles}
use Rattle.spec_promises.proofs.kept_handles_read_the_same.Goals as goal

pub returns : goal.returns
returns c = server_keeps_handles
