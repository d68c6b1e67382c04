use Rattle.server_core.proofs.Forgotten.{forgets}
use Rattle.server_core.proofs.laws.gone_connections_are_forgotten.Goals as goal

pub returns : goal.returns
returns c = forgets
