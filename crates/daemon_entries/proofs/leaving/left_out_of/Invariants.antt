-- the names so far, and those of the entries that are left, are all
use Rattle.std.proofs.Common.{◌≡◌, ◌++◌, map, length}
use Rattle.persist_store.specs.Entries.{entry_meant}
use Rattle.daemon_entries.specs.LeftOut.{names_left_out}
use Rattle.daemon_entries.proofs.leaving.left_out_of.Given as goal

abbrev pub invariant-loop-entry : goal.invariant-loop-entry
invariant-loop-entry l =
    l.names ++ names_left_out (map entry_meant l.kept) l.left ≡ names_left_out (map entry_meant l.kept) l.initial.left

abbrev pub decreases-loop-entry : goal.decreases-loop-entry
decreases-loop-entry l = length l.left
