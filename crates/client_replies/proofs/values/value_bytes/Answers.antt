use Rattle.std.proofs.Common.{arith}
use Rattle.client_replies.proofs.values.value_bytes.Goals as goal

pub returns : goal.returns
returns c = λ i. omega (arith, c.type_inv.bytes i)
