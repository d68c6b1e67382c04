-- the entries that were given and those that are left are all
use Rattle.std.proofs.Common.{◌≡◌, ◌++◌, map, length}
use Rattle.persist_store.specs.Entries.{entry_meant}
use Rattle.stored_values.proofs.entry_list.list_left.Given as goal

abbrev pub invariant-loop-entry : goal.invariant-loop-entry
invariant-loop-entry l = map entry_meant l.list.items ++ l.left ≡ l.initial.left

abbrev pub decreases-loop-entry : goal.decreases-loop-entry
decreases-loop-entry l = length l.left
