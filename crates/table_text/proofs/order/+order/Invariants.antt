use Rattle.std.proofs.Common.{◌≡◌, true, ◌++◌, List, take}
use Rattle.toml.specs.Data.{items_are_sorted}
use Rattle.toml.specs.View.{items_view, members_view}
use Rattle.toml.proofs.Views.{Entry, values_sorted}
use Rattle.table_text.proofs.order.+order.Given as goal

-- the items so far
abbrev pub invariant-array_ascends-items : goal.invariant-array_ascends-items
invariant-array_ascends-items l = items_are_sorted (items_view (take l.item-index l.item-items)) ≡ true

-- the values so far
abbrev pub invariant-keys_ascend-members : goal.invariant-keys_ascend-members
invariant-keys_ascend-members l =
    (goal.iterator-keys_ascend-members).can_next l._key-iterator ×
    (goal.iterator-keys_ascend-members).is_finite l._key-iterator ×
    (done : List Entry) × (l.table.entries ≡ done ++ l._key-iterator) × (values_sorted (members_view done) ≡ true)
