use Rattle.std.proofs.Common.{◌≡◌, ◌∷◌, [], ap, ◌∙◌, rules}
use Rattle.toml.specs.Data.{no_members, table}
use Rattle.toml.specs.View.{items_of, table_view}
use Rattle.load_maker.specs.LoadDescription.{port_table}
use Rattle.load_maker.proofs.TableLemmas.{top_table}
use Rattle.load_maker.proofs.description.load_table.Goals as goal

pub returns : goal.returns
returns c =
    let none : table_view c.new-made.result ≡ no_members = search rules in
    top_table _ _ _ _ _ _ _ none c.in_ok-set_text.ensures c.in_ok-set_array.ensures c.in_ok-set_array-2.ensures c.in_ok-set_number.ensures
    (c.in_ok-ports.ensures ∙ ap (λ t. items_of (table t ∷ [])) (c.in_ok-inner.ensures ∙ ap port_table c.in_ok-symbols.ensures))
    c.in_ok-routes.ensures
