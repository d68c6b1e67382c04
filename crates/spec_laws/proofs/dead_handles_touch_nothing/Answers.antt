use Rattle.spec_laws.proofs.Refused.{dead_handle_touches_nothing}
use Rattle.spec_laws.proofs.dead_handles_touch_nothing.Goals as goal

pub returns : goal.returns
returns c = dead_handle_touches_nothing
