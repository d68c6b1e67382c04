use Rattle.spec_laws.proofs.Isolated.{isolated, sees_only_itself, takes_as_alone, takes_all_as_alone}
use Rattle.spec_laws.proofs.clients_are_isolated.Goals as goal

pub returns-clause-alone : goal.returns-clause-alone
returns-clause-alone c = isolated

pub returns-clause-same_projection : goal.returns-clause-same_projection
returns-clause-same_projection c = sees_only_itself

pub returns-clause-taken : goal.returns-clause-taken
returns-clause-taken c = takes_as_alone

pub returns-clause-all_taken : goal.returns-clause-all_taken
returns-clause-all_taken c = takes_all_as_alone
