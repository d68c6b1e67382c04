use Rattle.std.proofs.Common.{◌∙◌}
use Rattle.connections.proofs.ReadLemmas.{shut_is}
use Rattle.ams_relay.proofs.serving.RelayServed.closing.Goals as goal

pub returns : goal.returns
returns c = λ x s. c.is_to_be_shut.ensures ∙ shut_is c.args.self.now.router.outlets x.running c.args.conn s.holds.outlets
