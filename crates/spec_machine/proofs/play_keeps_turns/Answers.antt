use Rattle.spec_machine.proofs.Played.{play_keeps_turns}
use Rattle.spec_machine.proofs.play_keeps_turns.Goals as goal

pub returns : goal.returns
returns g c = play_keeps_turns _ _
