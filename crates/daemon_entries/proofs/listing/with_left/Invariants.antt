-- the entries that were given and those that are left are all
use Rattle.std.proofs.Common.{◌≡◌, ◌++◌, map, length}
use Rattle.persist_store.specs.Entries.{entry_meant}
use Rattle.daemon_entries.proofs.listing.with_left.Given as goal

abbrev pub invariant-loop-entry : goal.invariant-loop-entry
invariant-loop-entry l = map entry_meant l.more.items ++ l.left ≡ map entry_meant l.initial.more.items ++ l.initial.left

abbrev pub decreases-loop-entry : goal.decreases-loop-entry
decreases-loop-entry l = length l.left
