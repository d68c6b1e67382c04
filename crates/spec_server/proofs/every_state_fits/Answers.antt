use Rattle.spec_server.proofs.ServerProofs.{server_state_fits, server_replies_fit}
use Rattle.spec_server.proofs.every_state_fits.Goals as goal

pub returns-clause-states : goal.returns-clause-states
returns-clause-states c = server_state_fits

pub returns-clause-replies : goal.returns-clause-replies
returns-clause-replies c = server_replies_fit
