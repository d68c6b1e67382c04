use Rattle.spec_machine.proofs.PortBytesLemmas.{reads_image, reads_bit, reads_states, reads_own}
use Rattle.spec_machine.proofs.areas.reads_are_of_the_image.Goals as goal

pub returns-clause-bytes : goal.returns-clause-bytes
returns-clause-bytes c = reads_image

pub returns-clause-bit : goal.returns-clause-bit
returns-clause-bit c = reads_bit

pub returns-clause-states : goal.returns-clause-states
returns-clause-states c = reads_states

pub returns-clause-own : goal.returns-clause-own
returns-clause-own c = reads_own
