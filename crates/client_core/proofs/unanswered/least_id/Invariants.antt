use Rattle.std.proofs.Common.{◌≡◌, ◌≤◌, length, drop}
use Rattle.spec_client.specs.Unanswered.{least_id}
use Rattle.client_core.proofs.unanswered.least_id.Given as goal

abbrev pub invariant-loop-i : goal.invariant-loop-i
invariant-loop-i l = record { within : l.i ≤ length l.us; least : l.least ≡ least_id (drop l.i l.us) }

abbrev pub decreases-loop-i : goal.decreases-loop-i
decreases-loop-i l = l.i
