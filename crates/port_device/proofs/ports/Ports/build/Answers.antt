use Rattle.std.specs.Prelude.{None}
use Rattle.port_device.proofs.ports.Ports.build.Goals as goal

pub returns : goal.returns
returns c = λ signals. c.in_ok-ports.ensures None signals
