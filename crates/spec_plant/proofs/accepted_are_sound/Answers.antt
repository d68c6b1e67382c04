use Rattle.spec_plant.proofs.SoundLemmas.{accepted_are_sound, accepted_are_numbered_apart}
use Rattle.spec_plant.proofs.accepted_are_sound.Goals as goal

pub returns-clause-sound : goal.returns-clause-sound
returns-clause-sound c = accepted_are_sound

pub returns-clause-numbers : goal.returns-clause-numbers
returns-clause-numbers c = accepted_are_numbered_apart
