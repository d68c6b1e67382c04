use Rattle.spec_persistent.proofs.OtherwiseLemmas as lemmas
use Rattle.spec_persistent.proofs.begun_is_sound.Goals as goal

pub returns-clause-sound : goal.returns-clause-sound
returns-clause-sound c = lemmas.begun_is_sound

pub returns-clause-numbers : goal.returns-clause-numbers
returns-clause-numbers c = lemmas.begun_is_numbered_apart
