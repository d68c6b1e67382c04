use Rattle.std.proofs.Common.{◌/◌, arith}
use Rattle.port_device.proofs.marks.are_clear.Goals as goal

pub returns : goal.returns
returns c = λ clear i from upto. c.is_clear.ensures clear (i / 64) (omega (arith, from)) (omega (arith, upto))
