use Rattle.spec_machine.proofs.ServerDelivers.{server_only_adds, server_keeps_there}
use Rattle.spec_machine.proofs.server_delivers.Goals as goal

pub returns-clause-adds : goal.returns-clause-adds
returns-clause-adds g c = server_only_adds _ _

pub returns-clause-there : goal.returns-clause-there
returns-clause-there g c = server_keeps_there _ _
