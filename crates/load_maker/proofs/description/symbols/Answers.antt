use Rattle.std.proofs.Common.{◌≡◌, ap, ◌∙◌, sym, rules}
use Rattle.toml.specs.Data.{no_items, push_item, table}
use Rattle.toml.specs.View.{items_view}
use Rattle.load_maker.proofs.TableLemmas.{symbols-none, symbols-more}
use Rattle.load_maker.proofs.description.symbols.Goals as goal

pub loop-i-init : goal.loop-i-init
loop-i-init c =
    let none : items_view c.new-all.result.items ≡ no_items = search rules in
    none ∙ sym symbols-none

pub loop-i-preserved : goal.loop-i-preserved
loop-i-preserved c =
    symbols-more (items_view c.loop-i.all.items) (items_view c.push_table.new.all.items) c.loop-i.i c.loop-i.invariant
    (c.in_ok-push_table.ensures ∙ ap (λ t. push_item (items_view c.loop-i.all.items) (table t)) c.in_ok-inner.ensures)
