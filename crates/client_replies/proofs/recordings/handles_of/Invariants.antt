use Rattle.std.proofs.Common.{◌≡◌, map, take}
use Rattle.spec_client.specs.Stages.{Recorded}
use Rattle.client_replies.specs.Stages.{recorded_kept}
use Rattle.client_replies.proofs.recordings.handles_of.Given as goal

-- the handles of those before this one
abbrev pub invariant-loop-n : goal.invariant-loop-n
invariant-loop-n l = l.handles.items ≡ map (λ (n : Recorded). n.handle) (map recorded_kept (take l.n-index l.notifications))
