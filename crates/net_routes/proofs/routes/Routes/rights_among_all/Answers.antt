-- The map's look-up is that of the routes.
use Rattle.std.proofs.Common.{◌∙◌, ap}
use Rattle.std.specs.Prelude.{option_map}
use Rattle.spec_plant.specs.Rights.{rights_of}
use Rattle.type_layout.specs.Descriptions as seen
use Rattle.net_routes.proofs.RouteLemmas.{rights_of-shown}
use Rattle.net_routes.proofs.routes.Routes.rights_among_all.Goals as goal

pub returns : goal.returns
returns c =
    let read = c.copied.ensures ∙ c.get.ensures.value in
    ap (option_map seen.rights_of) read ∙ rights_of-shown c.args.net.bytes c.self.inside.by_net.entries ∙ ap (rights_of c.args.net.bytes) c.self.view_is
