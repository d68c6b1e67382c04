use Rattle.client_calls.proofs.NameLemmas.{three_behind}
use Rattle.client_calls.proofs.names.put_part.Goals as goal

pub returns-clause-part : goal.returns-clause-part
returns-clause-part c = three_behind _ _ _ _ _ _ _ c.in_ok-put32.ensures.ok c.in_ok-put32-2.ensures.ok c.in_ok-put32-3.ensures.ok
