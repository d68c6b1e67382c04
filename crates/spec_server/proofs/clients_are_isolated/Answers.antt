use Rattle.spec_server.proofs.ServerProofs.{server_is_isolated, server_takes_as_alone}
use Rattle.spec_server.proofs.clients_are_isolated.Goals as goal

pub returns-clause-alone : goal.returns-clause-alone
returns-clause-alone c = server_is_isolated

pub returns-clause-taken : goal.returns-clause-taken
returns-clause-taken c = server_takes_as_alone
