use Rattle.spec_laws.proofs.Refused.{refusal_changes_nothing, result_changes_nothing}
use Rattle.spec_laws.proofs.Refused.{turned_away_changes_nothing, refused_reload_counts}
use Rattle.spec_laws.proofs.Refused.{bad_additions_are_refused}
use Rattle.spec_laws.proofs.refusals_change_nothing.Goals as goal

pub returns-clause-requests : goal.returns-clause-requests
returns-clause-requests c = refusal_changes_nothing

pub returns-clause-results : goal.returns-clause-results
returns-clause-results c = result_changes_nothing

pub returns-clause-packets : goal.returns-clause-packets
returns-clause-packets c = turned_away_changes_nothing

pub returns-clause-reloads : goal.returns-clause-reloads
returns-clause-reloads c = refused_reload_counts

pub returns-clause-additions : goal.returns-clause-additions
returns-clause-additions c = bad_additions_are_refused
