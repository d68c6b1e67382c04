use Rattle.spec_relay.proofs.OpenedAlone.{relay_opens_alone}
use Rattle.spec_relay.proofs.relay_opens_alone.Goals as goal

pub returns : goal.returns
returns c = relay_opens_alone
