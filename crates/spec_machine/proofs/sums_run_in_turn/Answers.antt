use Rattle.spec_machine.proofs.SumsInTurn.{runs_in_turn}
use Rattle.spec_machine.proofs.sums_run_in_turn.Goals as goal

pub returns : goal.returns
returns c = runs_in_turn
