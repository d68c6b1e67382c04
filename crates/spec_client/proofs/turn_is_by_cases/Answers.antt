use Rattle.spec_client.proofs.TurnCases.{turn_cases}
use Rattle.spec_client.proofs.turn_is_by_cases.Goals as goal

pub returns : goal.returns
returns c = turn_cases
