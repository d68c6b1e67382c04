use Rattle.spec_persistent.proofs.StoredLemmas as lemmas
use Rattle.spec_persistent.proofs.accepted_may_begin.Goals as goal

pub returns-clause-itself : goal.returns-clause-itself
returns-clause-itself c = lemmas.accepted_may_begin

pub returns-clause-stored : goal.returns-clause-stored
returns-clause-stored c = lemmas.stored_may_begin
