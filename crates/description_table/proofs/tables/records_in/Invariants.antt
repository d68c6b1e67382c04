use Rattle.std.proofs.Common.{◌≡◌, ◌++◌, map, drop, option_map}
use Rattle.toml.specs.View.{items_view}
use Rattle.spec_rules.specs.Fields.{items_in, table_of}
use Rattle.description_table.proofs.tables.records_in.Given as goal

-- those so far, and those of the items that are left
abbrev pub invariant-loop-item : goal.invariant-loop-item
invariant-loop-item g l =
    items_in (table_of (g.T.FromTable.written_in l.second)) (items_view l.items)
    ≡ option_map (λ xs. map g.T.FromTable.written_view l.records.items ++ xs)
    (items_in (table_of (g.T.FromTable.written_in l.second)) (items_view (drop l.item-index l.items)))
