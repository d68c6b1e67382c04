use Rattle.session.proofs.WatchingLemmas.{delete_told}
use Rattle.session.proofs.watching.delete.Goals as goal

pub returns : goal.returns
returns c = λ a notes port.
    delete_told a c.args.watches.now c.args.ams_port c.args.handle c.delete.new.self c.delete.result notes port c.delete.ensures.live c.delete.ensures.ok
    c.delete.ensures.not_live c.delete.ensures.err
