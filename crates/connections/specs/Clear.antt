-- The queue of a connection while it is open.
use Rattle.std.specs.Prelude.{◌≡◌, []}
use Rattle.out_queue.specs.Open.{IsOpen, tail_of}
use Rattle.out_queue.specs.declared.open_queue.OpenQueue.{OpenQueue}

-- it is open, with nothing written behind its frames
pub record IsClear (queue : OpenQueue) : Type 0 where
  pub is_open : IsOpen queue
  pub tail : tail_of queue ≡ []
