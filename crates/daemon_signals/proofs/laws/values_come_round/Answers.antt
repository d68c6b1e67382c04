-- The wave comes round.
use Rattle.daemon_signals.proofs.RoundLemmas.{value_after_is}
use Rattle.daemon_signals.proofs.laws.values_come_round.Goals as goal

pub returns : goal.returns
returns c = λ values t some. value_after_is values t some
