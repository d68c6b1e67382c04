use Rattle.spec_relay.proofs.PromiseLemmas.{turns_keep_promises, offers_keep_promises, relay_play_keeps_promises}
use Rattle.spec_relay.proofs.relay_keeps_promises.Goals as goal

pub returns-clause-turns : goal.returns-clause-turns
returns-clause-turns c = turns_keep_promises

pub returns-clause-offers : goal.returns-clause-offers
returns-clause-offers c = offers_keep_promises

pub returns-clause-play : goal.returns-clause-play
returns-clause-play c = relay_play_keeps_promises
