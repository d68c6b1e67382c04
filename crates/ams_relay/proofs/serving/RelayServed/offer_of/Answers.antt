use Rattle.std.proofs.Common.{◌∙◌}
use Rattle.connections.proofs.ReadLemmas.{offer_is}
use Rattle.ams_relay.proofs.serving.RelayServed.offer_of.Goals as goal

pub returns-clause-machine : goal.returns-clause-machine
returns-clause-machine c = λ x s. c.offer_of.ensures.offer ∙ offer_is c.args.self.now.router.outlets x.running c.args.conn s.holds.outlets
