use Rattle.session.proofs.WatchingLemmas.{add_refused}
use Rattle.session.proofs.watching.add.Goals as goal

pub returns-in-Err-clause-adds : goal.returns-in-Err-clause-adds
returns-in-Err-clause-adds c = λ a delay asks notes address.
    add_refused a c.args.watches.now _ c.in-Err.code notes (c.in-Err.ensures.asked a delay asks address)
