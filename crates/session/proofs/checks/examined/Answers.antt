use Rattle.std.proofs.Common.{◌<◌, length, rules}
use Rattle.session.proofs.CheckLemmas.{headless, none-passed}
use Rattle.session.proofs.checks.examined.Goals as goal

pub returns-in-Some : goal.returns-in-Some
returns-in-Some c = λ w x held address.
    c.examined_header.ensures w x c.args.ams.now held address (none-passed w x c.args.ams.now _ c.in-Some.ensures.header) c.in-Some.ensures.payload

pub returns-in-None : goal.returns-in-None
returns-in-None c = λ w x held address.
    let short : length c.args.ams.now < 32 = search rules in
    headless w x c.args.ams.now short
