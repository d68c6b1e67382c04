use Rattle.spec_machine.proofs.TablesAgreed.{tables_agree}
use Rattle.spec_machine.proofs.tables_agree.Goals as goal

pub returns : goal.returns
returns g c = tables_agree _ _
