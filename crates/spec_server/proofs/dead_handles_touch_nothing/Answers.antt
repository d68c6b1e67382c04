use Rattle.spec_server.proofs.ServerProofs.{server_refuses_dead_handles}
use Rattle.spec_server.proofs.dead_handles_touch_nothing.Goals as goal

pub returns : goal.returns
returns c = server_refuses_dead_handles
