use Rattle.std.proofs.Common.{◌≡◌, map, is_some}
use Rattle.spec_rules.specs.Written.{WrittenRoute}
use Rattle.spec_rules.specs.RouteRules.{wrong_rights}
use Rattle.spec_rules.specs.Described.{rights_of}
use Rattle.description_table.specs.Views.{route_view}
use Rattle.description_rules.proofs.FirstLemmas.{first_from}
use Rattle.description_rules.proofs.route_rules.wrong_rights.Given as goal

-- the routes before this one have their rights
abbrev pub invariant-loop-i : goal.invariant-loop-i
invariant-loop-i l =
    wrong_rights (map route_view l.routes) ≡ first_from (λ before (r : WrittenRoute). is_some (rights_of r.rights)) route_view l.routes l.i
