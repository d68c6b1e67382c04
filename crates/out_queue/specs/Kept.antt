-- The frames that a queue keeps, of which the first may be taken in part. Private: no public clause cites this file.
use Rattle.std.specs.Prelude.{◌≡◌, ℕ, ◌≤◌, List, [], ◌∷◌, length, drop}
use Rattle.out_queue.specs.Queue.{QUEUE_LIMIT, queued}

-- what is left, where so many bytes of the first were taken
abbrev pub left_of : ℕ → List (List ℕ) → List (List ℕ)
left_of taken [] = []
left_of taken (frame ∷ frames) = drop taken frame ∷ frames

-- so many bytes of the first were taken, and none where there is no frame
abbrev pub IsTaken : ℕ → List (List ℕ) → Type 0
IsTaken taken [] = taken ≡ 0
IsTaken taken (frame ∷ frames) = taken ≤ length frame

-- so many bytes of the first were taken, and so many wait, no more than may
pub record CanStand (some bytes : ℕ) (frames : List (List ℕ)) : Type 0 where
  pub taken : IsTaken some frames
  pub counted : bytes ≡ queued (left_of some frames)
  pub room : bytes ≤ QUEUE_LIMIT
