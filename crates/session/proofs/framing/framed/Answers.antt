use Rattle.std.proofs.Common.{arith}
use Rattle.session.proofs.framing.framed.Goals as goal

pub returns-clause-fits : goal.returns-clause-fits
returns-clause-fits c =
    let len = c.fill_headers.ensures.len in
    let few = c.is_too_long.ensures.fits c.if-is_too_long.false in
    (omega (arith, len, c.requires), omega (arith, len, few, c.requires))
