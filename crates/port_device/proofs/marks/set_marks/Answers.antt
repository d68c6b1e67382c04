use Rattle.std.proofs.Common.{◌/◌, arith}
use Rattle.port_device.proofs.marks.set_marks.Goals as goal

pub returns-clause-set : goal.returns-clause-set
returns-clause-set c = λ i from upto. c.set_run.ensures.set (i / 64) (omega (arith, from)) (omega (arith, upto))
