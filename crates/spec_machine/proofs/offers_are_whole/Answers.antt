use Rattle.spec_machine.proofs.TurnsKept.{offers_whole}
use Rattle.spec_machine.proofs.offers_are_whole.Goals as goal

pub returns : goal.returns
returns g c = offers_whole _ _
