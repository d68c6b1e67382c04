-- A queue that is open: bytes may be written behind its frames.
use Rattle.std.specs.Prelude.{◌≡◌, ℕ, ◌+◌, ◌≤◌, List, length, drop, sum}
use Rattle.out_queue.specs.Kept.{left_of, IsTaken}
use Rattle.out_queue.specs.Queue.{QUEUE_LIMIT, queued}
use Rattle.out_queue.specs.Runs.{frames_in}
use Rattle.out_queue.specs.declared.open_queue.OpenQueue.{OpenQueue}

-- the frames, the first one whole
abbrev pub whole_frames : OpenQueue → List (List ℕ)
whole_frames o = frames_in o.lens (drop o.gone o.bytes)

-- where the frames end
abbrev pub end_of : OpenQueue → ℕ
end_of o = o.gone + sum o.lens

-- what is left of the frames
unfoldable pub frames_of : OpenQueue → List (List ℕ)
frames_of o = left_of o.taken (whole_frames o)

-- what is written behind them
unfoldable pub tail_of : OpenQueue → List ℕ
tail_of o = drop (end_of o) o.bytes

-- the frames stand in the bytes, those that wait are counted, and they are no more than may wait
pub record IsOpen (o : OpenQueue) : Type 0 where
  pub inside : end_of o ≤ length o.bytes
  pub ends : o.gone + o.taken + o.queued ≡ end_of o
  pub first : IsTaken o.taken (whole_frames o)
  pub counted : o.queued ≡ queued (frames_of o)
  pub room : o.queued ≤ QUEUE_LIMIT
