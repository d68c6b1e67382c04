use Rattle.std.proofs.Common.{◌≡◌, map, drop}
use Rattle.client_replies.specs.RecordParts.{name_of_handle}
use Rattle.client_replies.specs.Stages.{recorded_kept}
use Rattle.client_replies.proofs.recordings.name_at.Given as goal

-- none of those before has the handle
abbrev pub invariant-loop-n : goal.invariant-loop-n
invariant-loop-n l =
    name_of_handle l.handle (map recorded_kept l.notifications) ≡ name_of_handle l.handle (map recorded_kept (drop l.n-index l.notifications))
