use Rattle.std.proofs.Common.{arith}
use Rattle.session.proofs.TickBytes.{no_bit}
use Rattle.session.proofs.tick_bytes.bit_of.Goals as goal

pub returns-else-bit-lt8 : goal.returns-else-bit-lt8
returns-else-bit-lt8 c = no_bit c.args.byte c.args.bit (omega arith) (omega arith)
