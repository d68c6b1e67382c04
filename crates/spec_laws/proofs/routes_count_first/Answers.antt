use Rattle.spec_laws.proofs.RightsLaws.{routes_count_first, others_share_one, strict_knows_routes}
use Rattle.spec_laws.proofs.routes_count_first.Goals as goal

pub returns-clause-routes : goal.returns-clause-routes
returns-clause-routes c = routes_count_first

pub returns-clause-others : goal.returns-clause-others
returns-clause-others c = others_share_one

pub returns-clause-strict : goal.returns-clause-strict
returns-clause-strict c = strict_knows_routes
