use Rattle.spec_relay.proofs.RelayDelivered.{relay_only_adds, relay_keeps_there, relay_delivers, relay_delivers_all}
use Rattle.spec_relay.proofs.relay_delivers.Goals as goal

pub returns-clause-adds : goal.returns-clause-adds
returns-clause-adds c = relay_only_adds

pub returns-clause-there : goal.returns-clause-there
returns-clause-there c = relay_keeps_there

pub returns-clause-begins : goal.returns-clause-begins
returns-clause-begins c = relay_delivers

pub returns-clause-all : goal.returns-clause-all
returns-clause-all c = relay_delivers_all
