-- A run is no tick.
use Rattle.watched_wire.proofs.TickLemmas.{run_ticks}
use Rattle.watched_wire.proofs.watched.WatchedWire.offer_run.Goals as goal

pub invariant_of-self-clause-counted : goal.invariant_of-self-clause-counted
invariant_of-self-clause-counted g c =
    run_ticks c.args.self.now.ticks c.offer_run-taken.result (g.W.Wire.state c.args.self.now.wire) (g.W.Wire.state c.offer_run-taken.new.self)
    c.args.conn c.args.run.now c.offer_run-taken.ensures.takes c.args.self.now.counted
