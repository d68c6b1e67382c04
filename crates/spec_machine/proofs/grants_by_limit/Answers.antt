use Rattle.spec_machine.proofs.TablesAgreed.{limits_grants}
use Rattle.spec_machine.proofs.grants_by_limit.Goals as goal

pub returns : goal.returns
returns c = limits_grants
