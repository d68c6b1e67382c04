-- The first route, and all of them.
use Rattle.std.proofs.Common.{sym, ◌∙◌, ap}
use Rattle.std.specs.Prelude.{option_map}
use Rattle.type_layout.specs.Descriptions as plain
use Rattle.net_routes.proofs.RouteLemmas.{walked-to}
use Rattle.net_routes.proofs.routes.Routes.rights.Goals as goal

pub returns-in-Some : goal.returns-in-Some
returns-in-Some c =
    let there = sym c.rights_at.ensures ∙ ap (λ o. option_map plain.rights_of o) c.in-Some.is in
    sym (walked-to c.args.net.bytes c.args.self.now 0 (plain.rights_of c.in-Some.rights) there)
