use Rattle.std.proofs.Common.{◌≡◌, ◌++◌, map, drop, option_map}
use Rattle.toml.specs.View.{items_view}
use Rattle.spec_rules.specs.Fields.{items_in}
use Rattle.toml.specs.Data.{as_str}
use Rattle.description_table.specs.Views.{text_view}
use Rattle.description_table.proofs.writers.texts_in.Given as goal

-- those so far, and those of the items that are left
abbrev pub invariant-loop-item : goal.invariant-loop-item
invariant-loop-item l =
    items_in (as_str) (items_view l.items)
    ≡ option_map (λ xs. map text_view l.texts.items ++ xs) (items_in (as_str) (items_view (drop l.item-index l.items)))
