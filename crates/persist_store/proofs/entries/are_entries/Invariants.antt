-- The bytes that are left are entries exactly where all are.
use Rattle.std.proofs.Common.{◌≡◌}
use Rattle.std.specs.Prelude.{is_some}
use Rattle.spec_store.specs.BodyText.{entries_in}
use Rattle.persist_store.proofs.entries.are_entries.Given as goal

abbrev pub decreases-loop-left : goal.decreases-loop-left
decreases-loop-left l = l.left

abbrev pub invariant-loop-left : goal.invariant-loop-left
invariant-loop-left l = is_some (entries_in l.left l.rest) ≡ is_some (entries_in l.count l.bytes)
