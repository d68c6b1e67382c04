-- A further route, after routes with the same rights.
use Rattle.std.proofs.Common.{[], take, get_or, sym, ◌∙◌, ap}
use Rattle.std.proofs.lemmas.List.{map_more}
use Rattle.spec_plant.specs.Rights.{rights_of}
use Rattle.type_layout.specs.Descriptions.{routes_of, route_of}
use Rattle.type_layout.specs.declared.description.Rights.TheVariants.{Read}
use Rattle.net_routes.proofs.RouteLemmas.{rights_of-more}
use Rattle.net_routes.proofs.routes.Routes.build.Goals as goal

pub loop-route-preserved : goal.loop-route-preserved
loop-route-preserved c =
    let list = c.as_slice-route-items.result.now in
    let i = c.loop-route.route-index in
    let last = get_or list i (record { net = record { bytes = [] }; rights = Read }) in
    let more = rights_of-more c.loop-route.routes (routes_of (take i list)) (route_of last) c.loop-route.invariant in
    let longer = map_more route_of list i (record { net = record { bytes = [] }; rights = Read }) c.loop-route-test.true in
    λ n. c.in_ok-add.ensures n ∙ more n ∙ ap (rights_of n) (sym longer)
