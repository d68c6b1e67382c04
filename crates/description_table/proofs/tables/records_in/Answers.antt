use Rattle.std.proofs.Common.{◌≡◌, ◌∷◌, [], ◌++◌, map, ap, sym, ◌∙◌, option_map}
use Rattle.std.proofs.lemmas.List.{map-append}
use Rattle.spec_rules.specs.Fields.{table_of}
use Rattle.description_table.proofs.ItemLemmas.{items_in_more}
use Rattle.description_table.proofs.tables.records_in.Goals as goal

pub loop-item-preserved : goal.loop-item-preserved
loop-item-preserved g c =
    let view = g.T.FromTable.written_view in
    let x = view c.in-Some.one in
    let before = map view c.loop-item.records.items in
    let pushed : map view c.push.new.self.items ≡ before ++ x ∷ [] =
    ap (map view) c.in_ok-push.ensures.items ∙ map-append view c.loop-item.records.items (c.in-Some.one ∷ []) in
    rw pushed (items_in_more (table_of (g.T.FromTable.written_in c.args.second))
    c.args.items.now c.loop-item.item-index c.item-item.result x before _ c.loop-item-test.true
    c.item-item.is (ap (option_map view) (sym c.in-Some.is) ∙ c.in_ok-one.ensures) c.loop-item.invariant)
