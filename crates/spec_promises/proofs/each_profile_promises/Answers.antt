use Rattle.spec_promises.proofs.Promised.{each_holds_writes}
use Rattle.spec_promises.proofs.Lives.{each_notifies}
use Rattle.spec_promises.proofs.KeptReads.{each_keeps_handles}
use Rattle.spec_promises.proofs.each_profile_promises.Goals as goal

pub returns-clause-writes : goal.returns-clause-writes
returns-clause-writes c = each_holds_writes

pub returns-clause-notifications : goal.returns-clause-notifications
returns-clause-notifications c = each_notifies

pub returns-clause-handles : goal.returns-clause-handles
returns-clause-handles c = each_keeps_handles
