use Rattle.spec_relay.specs.RelayState.{relay_start}
use Rattle.ams_relay.specs.Relays.{StandsAt, standing_at_start}
use Rattle.ams_relay.proofs.PromiseLemmas.{log_promises}
use Rattle.ams_relay.proofs.relaying.relay.Goals as goal

pub returns-clause-promises : goal.returns-clause-promises
returns-clause-promises g c = λ d over.
    let start = standing_at_start (relay_start d) in
    log_promises c.serve.result d (StandsAt c.serve.new.served) (g.W.Wire.state c.args.wire.now).history.log (g.W.Wire.state c.serve.new.wire).history.log
    (λ ne. c.serve.ensures.turns ne start over) (c.serve.ensures.offers start over)
