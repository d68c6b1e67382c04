use Rattle.spec_machine.proofs.PortBytesLemmas.{writes_image, writes_bit, leaves_other_ports}
use Rattle.spec_machine.proofs.StatesSet.{sets_states}
use Rattle.spec_machine.proofs.areas.writes_are_of_the_image.Goals as goal

pub returns-clause-bytes : goal.returns-clause-bytes
returns-clause-bytes c = writes_image

pub returns-clause-bit : goal.returns-clause-bit
returns-clause-bit c = writes_bit

pub returns-clause-states : goal.returns-clause-states
returns-clause-states c = sets_states

pub returns-clause-elsewhere : goal.returns-clause-elsewhere
returns-clause-elsewhere c = leaves_other_ports
