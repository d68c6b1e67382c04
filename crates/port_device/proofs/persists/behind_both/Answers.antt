use Rattle.port_device.proofs.BehindLemmas.{behind-none, behind-some}
use Rattle.port_device.proofs.persists.behind_both.Goals as goal

pub returns-in-Some : goal.returns-in-Some
returns-in-Some c = behind-some c.args.first.now c.args.second.now c.args.bytes.now c.in-Some.rest.now _ c.in-Some.ensures c.behind-in-Some.ensures

pub returns-in-None : goal.returns-in-None
returns-in-None c = behind-none c.args.first.now c.args.second.now c.args.bytes.now c.in-None.ensures
