use Rattle.spec_server.proofs.ServerProofs.{server_plays_in_turns}
use Rattle.spec_server.proofs.scripts_are_played_in_turns.Goals as goal

pub returns : goal.returns
returns c = server_plays_in_turns
