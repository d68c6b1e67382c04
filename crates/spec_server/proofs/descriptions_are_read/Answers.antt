use Rattle.spec_server.proofs.ServerProofs.{reads_descriptions, tells_reloads}
use Rattle.spec_server.proofs.descriptions_are_read.Goals as goal

pub returns-clause-accepted : goal.returns-clause-accepted
returns-clause-accepted c = reads_descriptions

pub returns-clause-told : goal.returns-clause-told
returns-clause-told c = tells_reloads
