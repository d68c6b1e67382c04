use Rattle.port_device.proofs.BehindLemmas.{behind-cases}
use Rattle.port_device.proofs.persists.behind.Goals as goal

pub returns : goal.returns
returns c = behind-cases c.args.text.now c.args.bytes.now c.strip_prefix.result c.strip_prefix.ensures.cases
