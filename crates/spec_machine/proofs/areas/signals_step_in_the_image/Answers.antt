use Rattle.spec_machine.proofs.SignalsStepped.{steps_signals}
use Rattle.spec_machine.proofs.areas.signals_step_in_the_image.Goals as goal

pub returns : goal.returns
returns c = steps_signals
