use Rattle.std.proofs.Common.{◌≡◌, length}
use Rattle.spec_client.specs.Recordings.{after_deletion}
use Rattle.client_replies.specs.Stages.{recording_kept}
use Rattle.client_replies.proofs.recordings.next_left.Given as goal

-- the handles before have ended
abbrev pub invariant-left : goal.invariant-left
invariant-left l = after_deletion l.initial.left.items (recording_kept l.r) ≡ after_deletion l.left.items (recording_kept l.r)

abbrev pub decreases-left : goal.decreases-left
decreases-left l = length l.left.items
