use Rattle.server_core.specs.Checking.{AreAsked}
use Rattle.server_core.proofs.checking.check_all.Goals as goal

pub returns : goal.returns
unfolding AreAsked
returns g c = c.check_parts.ensures
