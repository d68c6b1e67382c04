use Rattle.std.proofs.Common.{arith}
use Rattle.session.proofs.HeaderWords.{headers-text}
use Rattle.session.proofs.framing.headers_for.Goals as goal

pub returns : goal.returns
returns c = λ h is.
    headers-text h c.args.ams.now _ c.args.len c.get64.result c.get64-2.result c.get16.result c.get32.result (λ i. omega (arith, c.type_inv.ams i))
    c.requires.long is c.get64.ensures c.get64-2.ensures c.get16.ensures c.get32.ensures c.headers_of.ensures
