use Rattle.std.proofs.Common.{◌≡◌, length}
use Rattle.spec_client.specs.Unanswered.{free_id}
use Rattle.client_core.proofs.unanswered.next_id.Given as goal

abbrev pub invariant-loop-left : goal.invariant-loop-left
invariant-loop-left l = free_id l.left l.us l.id ≡ free_id (length l.us) l.us l.initial.id

abbrev pub decreases-loop-left : goal.decreases-loop-left
decreases-loop-left l = l.left
