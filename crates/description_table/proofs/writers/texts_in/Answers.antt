use Rattle.std.proofs.Common.{◌≡◌, ◌∷◌, [], ◌++◌, map, ap, ◌∙◌}
use Rattle.std.proofs.lemmas.List.{map-append}
use Rattle.toml.specs.Data.{as_str}
use Rattle.description_table.specs.Views.{text_view}
use Rattle.description_table.proofs.ItemLemmas.{items_in_more, items_in_none}
use Rattle.description_table.proofs.writers.texts_in.Goals as goal

pub returns-in_default : goal.returns-in_default
returns-in_default c =
    items_in_none as_str c.args.items.now c.loop-item.item-index c.item-item.result
    (map text_view c.loop-item.texts.items) _ c.loop-item-test.true c.item-item.is
    c.in_default.ensures c.loop-item.invariant

pub loop-item-preserved : goal.loop-item-preserved
loop-item-preserved c =
    let before = map text_view c.loop-item.texts.items in
    let pushed : map text_view c.push.new.self.items ≡ before ++ c.in-Some.text.now ∷ [] =
    ap (map text_view) c.in_ok-push.ensures.items ∙ map-append text_view c.loop-item.texts.items (c.in-Some.text ∷ []) in
    rw pushed (items_in_more as_str c.args.items.now c.loop-item.item-index c.item-item.result c.in-Some.text.now before _ c.loop-item-test.true
    c.item-item.is c.in-Some.ensures c.loop-item.invariant)
