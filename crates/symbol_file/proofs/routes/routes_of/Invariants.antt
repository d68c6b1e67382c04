use Rattle.std.proofs.Common.{◌≡◌, map, take}
use Rattle.spec_rules.specs.Described.{route_described}
use Rattle.type_layout.specs.Descriptions.{routes_of}
use Rattle.description_table.specs.Views.{route_view}
use Rattle.symbol_file.proofs.routes.routes_of.Given as goal

-- the routes before this one are built
abbrev pub invariant-loop-route : goal.invariant-loop-route
invariant-loop-route l = routes_of l.built ≡ map route_described (map route_view (take l.route-index l.routes))
