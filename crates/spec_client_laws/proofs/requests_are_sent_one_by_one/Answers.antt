use Rattle.spec_client_laws.proofs.RunLemmas.{sends_one_by_one}
use Rattle.spec_client_laws.proofs.CallLemmas.{one_waits_over_links}
use Rattle.spec_client_laws.proofs.requests_are_sent_one_by_one.Goals as goal

pub returns-clause-turns : goal.returns-clause-turns
returns-clause-turns c = sends_one_by_one

pub returns-clause-links : goal.returns-clause-links
returns-clause-links c = one_waits_over_links
