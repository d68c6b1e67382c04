-- The rights so far are those of the routes so far.
use Rattle.std.proofs.Common.{◌≡◌, ℕ, List, take}
use Rattle.spec_plant.specs.Rights.{rights_of}
use Rattle.type_layout.specs.Descriptions.{routes_of}
use Rattle.net_routes.proofs.routes.Routes.build.Given as goal

abbrev pub invariant-loop-route : goal.invariant-loop-route
invariant-loop-route l = (n : List ℕ) → rights_of n l.routes ≡ rights_of n (routes_of (take l.route-index l.route-items))
