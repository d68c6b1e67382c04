use Rattle.std.proofs.Common.{◌≡◌, rules}
use Rattle.toml.specs.Data.{no_items}
use Rattle.toml.specs.View.{items_view}
use Rattle.load_maker.proofs.TableLemmas.{four_routes}
use Rattle.load_maker.proofs.description.routes.Goals as goal

pub returns : goal.returns
returns c =
    let none : items_view c.new-all.result.items ≡ no_items = search rules in
    four_routes _ _ _ _ _ none c.in_ok-push_route.ensures c.in_ok-push_route-2.ensures c.in_ok-push_route-3.ensures c.in_ok-push_route-4.ensures
