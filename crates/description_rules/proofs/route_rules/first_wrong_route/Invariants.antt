use Rattle.std.proofs.Common.{◌≡◌, [], map, take}
use Rattle.spec_rules.specs.Places.{first_wrong}
use Rattle.spec_rules.specs.RouteRules.{is_right_route}
use Rattle.spec_rules.specs.Written.{WrittenRoute}
use Rattle.description_table.specs.Views.{route_view}
use Rattle.description_rules.proofs.FirstLemmas.{first_from}
use Rattle.description_rules.proofs.route_rules.first_wrong_route.Given as goal

-- the routes before this one are right, and their NetIds noted
abbrev pub invariant-loop-i : goal.invariant-loop-i
invariant-loop-i l = record {
  first : first_wrong is_right_route [] (map route_view l.routes) ≡ first_from is_right_route route_view l.routes l.i;
  noted : l.seen ≡ map (λ (r : WrittenRoute). r.net) (map route_view (take l.i l.routes));
}
