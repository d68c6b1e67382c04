-- What a runner keeps, as contracts see it: less than its history.
use Rattle.std.specs.Prelude.{ℕ, ◌+◌, ◌*◌, ◌^◌, List, [], ◌∷◌, ◌++◌, length, filter, sum_by, Option, Some, None}
use Rattle.spec_frames.specs.Division.{frames_of}
use Rattle.spec_client.specs.Unanswered.{is_timed_out}
use Rattle.spec_client.specs.PassedOver.{says_something}
use Rattle.spec_client.specs.Hearing.{samples_in}
use Rattle.spec_client.specs.Stages.{Output, Stage}
use Rattle.client_core.specs.Kept.{Kept}

pub record RunnerKept : Type 0 where
  pub client : Kept
  pub stage : Stage
  -- what it gives before it hears anything more
  pub pending : List Output

-- a packet that waits
abbrev pub waiting_packets : Option (List ℕ) → List (List ℕ)
waiting_packets None = []
waiting_packets (Some packet) = packet ∷ []

-- the packets of the whole frames that say something and are not heard yet
abbrev pub packets_kept : Kept → List (List ℕ)
packets_kept k = filter says_something (waiting_packets k.waiting ++ frames_of k.stream.rest)

-- at most so many things are heard until all bytes are heard, or the peer is broken
abbrev pub hearings_kept : Kept → ℕ
hearings_kept k =
    1 + length (filter is_timed_out k.unanswered) + length k.samples + sum_by (λ packet. 1 + samples_in packet) (packets_kept k)

-- at most so many steps are given until it waits or the call is over: what is given behind one thing that is heard
-- is below 2 ^ 64
abbrev pub turns_left : RunnerKept → ℕ
turns_left k = hearings_kept k.client * 2 ^ 64 + length k.pending

-- with an output before the others
abbrev pub with_first : Output → RunnerKept → RunnerKept
with_first output k = record k { pending = output ∷ k.pending }
