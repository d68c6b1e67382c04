-- A route is added at the end where its NetId has none; else nothing changes.
use Rattle.std.proofs.Common.{◌≡◌, [], ◌∷◌, ◌++◌, true, false, map, refl, sym, ◌∙◌, ap}
use Rattle.std.specs.Prelude.{None, is_some}
use Rattle.spec_plant.specs.Rights.{rights_of}
use Rattle.type_layout.specs.Descriptions as seen
use Rattle.net_routes.specs.Shown.{shown}
use Rattle.net_routes.proofs.RouteLemmas.{rights_of-there, inserted, is_some-option_map, option_map-none}
use Rattle.net_routes.proofs.routes.Routes.add.Goals as goal

pub returns-then-is_some : goal.returns-then-is_some
returns-then-is_some c =
    let found : is_some c.rights.result ≡ true = sym c.is_some.ensures ∙ c.if-is_some.true in
    let there : is_some (rights_of c.args.net.bytes c.args.self.now) ≡ true
    = ap is_some (sym c.rights.ensures) ∙ is_some-option_map seen.rights_of c.rights.result ∙ found in
    rights_of-there c.args.self.now (record { net = c.args.net.bytes; rights = seen.rights_of c.args.rights }) there

pub returns : goal.returns
returns c =
    let missing : is_some c.rights.result ≡ false = sym c.is_some.ensures ∙ c.if-is_some.false in
    let none : rights_of c.args.net.bytes c.args.self.now ≡ None = sym c.rights.ensures ∙ option_map-none seen.rights_of c.rights.result missing in
    let none_there : rights_of c.args.net.bytes (map shown c.self.inside.by_net.entries) ≡ None = rw c.self.view_is none in
    let last = ap (map shown) c.in_ok-insert.ensures.entries ∙ inserted c.args.net.bytes c.args.rights c.self.inside.by_net.entries none_there in
    let whole : map shown c.insert.new.self.entries ≡ c.args.self.now ++ record { net = c.args.net.bytes; rights = seen.rights_of c.args.rights } ∷ []
    = last ∙ rw c.self.view_is refl in
    λ n. ap (rights_of n) whole
