use Rattle.spec_machine.proofs.WorldBytes.{areas_are_at_their_ports, writes_one_port, ticks_all_ports}
use Rattle.spec_machine.proofs.areas.worlds_hold_all_ports.Goals as goal

pub returns-clause-areas : goal.returns-clause-areas
returns-clause-areas c = areas_are_at_their_ports

pub returns-clause-writes : goal.returns-clause-writes
returns-clause-writes c = writes_one_port

pub returns-clause-ticks : goal.returns-clause-ticks
returns-clause-ticks c = ticks_all_ports
