use Rattle.spec_machine.proofs.TurnsKept.{takes_output}
use Rattle.spec_machine.proofs.AllTaken.{takes_all}
use Rattle.spec_machine.proofs.taken_is_output.Goals as goal

pub returns-clause-begins : goal.returns-clause-begins
returns-clause-begins g c = takes_output _ _

pub returns-clause-all : goal.returns-clause-all
returns-clause-all g c = takes_all _ _
