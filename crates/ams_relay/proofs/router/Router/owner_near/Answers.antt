use Rattle.std.proofs.Common.{sym}
use Rattle.ams_relay.proofs.OwnLemmas.{owner_there}
use Rattle.ams_relay.proofs.router.Router.owner_near.Goals as goal

pub returns-in-Some-clause-entry : goal.returns-in-Some-clause-entry
returns-in-Some-clause-entry c = λ b s h. sym (owner_there c.in-Some.owner c.args.net.bytes b c.args.self.now s h c.in-Some.ensures)
