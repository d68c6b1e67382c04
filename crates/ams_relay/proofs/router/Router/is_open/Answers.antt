use Rattle.std.proofs.Common.{not, ap, ◌∙◌}
use Rattle.ams_relay.proofs.CarryLemmas.{open_at, open_absent}
use Rattle.ams_relay.proofs.router.Router.is_open.Goals as goal

pub returns-in-Some : goal.returns-in-Some
returns-in-Some c = ap not c.is_closing.ensures ∙ open_at c.args.self.now.outlets c.args.number c.in-Some.place c.in-Some.ensures.found

pub returns-in-None : goal.returns-in-None
returns-in-None c = open_absent c.args.self.now.outlets c.args.number c.in-None.ensures.absent
