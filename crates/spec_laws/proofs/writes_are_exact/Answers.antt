use Rattle.spec_laws.proofs.Exact.{changes_only_by_writes, puts_are_exact}
use Rattle.spec_laws.proofs.BitWrites.{puts_bits}
use Rattle.spec_laws.proofs.HandleWrites.{writes_by_handle}
use Rattle.spec_laws.proofs.writes_are_exact.Goals as goal

pub returns-clause-changes : goal.returns-clause-changes
returns-clause-changes c = changes_only_by_writes

pub returns-clause-puts : goal.returns-clause-puts
returns-clause-puts c = puts_are_exact

pub returns-clause-bits : goal.returns-clause-bits
returns-clause-bits c = puts_bits

pub returns-clause-handles : goal.returns-clause-handles
returns-clause-handles c = writes_by_handle
