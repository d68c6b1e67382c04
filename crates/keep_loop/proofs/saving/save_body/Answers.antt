-- The body of what is served stands already, as was told of it.
use Rattle.keep_loop.proofs.SavingLemmas.{stays_same}
use Rattle.keep_loop.proofs.saving.save_body.Goals as goal

pub returns-in-Ok-true-clause-saved : goal.returns-in-Ok-true-clause-saved
returns-in-Ok-true-clause-saved g c = stays_same g.M.Served.body_of (g.M.Served.serves c.args.served.now) c.args.disk.now c.args.store.now
    c.requires.some (rw c.in-Ok-true.field-0-test at c.in-Ok-true.ensures)
