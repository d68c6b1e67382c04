use Rattle.spec_machine.proofs.Carried.{output_grows, closing_ends, limits_queue}
use Rattle.spec_machine.proofs.output_only_grows.Goals as goal

pub returns-clause-grows : goal.returns-clause-grows
returns-clause-grows g c = output_grows _ _

pub returns-clause-ends : goal.returns-clause-ends
returns-clause-ends g c = closing_ends _ _

pub returns-clause-limit : goal.returns-clause-limit
returns-clause-limit g c = limits_queue _
