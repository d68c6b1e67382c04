use Rattle.spec_plant.proofs.SoundLemmas.{accepted_are_sound}
use Rattle.spec_laws.proofs.EveryState.{every_state_fits}
use Rattle.spec_laws.proofs.every_state_fits.Goals as goal

pub returns-clause-descriptions : goal.returns-clause-descriptions
returns-clause-descriptions c = accepted_are_sound

pub returns-clause-states : goal.returns-clause-states
returns-clause-states c = every_state_fits
