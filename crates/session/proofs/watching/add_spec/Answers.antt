use Rattle.std.proofs.Common.{refl}
use Rattle.session.proofs.WatchingLemmas.{add_ok, add_err}
use Rattle.session.proofs.watching.add_spec.Goals as goal

pub returns-in-Ok-clause-adds : goal.returns-in-Ok-clause-adds
returns-in-Ok-clause-adds c = λ a act notes asks.
    add_ok a act c.args.watches.now c.args.spec _ c.add.new.self c.in_ok-handle.field-0 c.in-Ok.is notes asks c.in_ok-handle.ensures.full
    c.in_ok-handle.ensures.handle c.in_ok-handle.ensures.ok

pub returns-in-Err-clause-adds : goal.returns-in-Err-clause-adds
returns-in-Err-clause-adds c = λ a act notes asks.
    add_err a act c.args.watches.now c.args.spec c.add.new.self c.in_ok-handle.field-0 (rw c.in-Err.is refl) notes asks c.in_ok-handle.ensures.full
    c.in_ok-handle.ensures.err
