-- What a client hears: the answers to its requests, and the notifications that it is sent.
use Rattle.std.specs.Prelude.{ℕ, List, map, flat_map, if◌then◌else◌, ◌==◌, length}
use Rattle.ads_base.specs.declared.peer.Peer.{Peer}
use Rattle.spec_formats.specs.Notification.{Sample, Stamp}

pub data Heard : Type 0 where
  -- the response to a request: its invoke id, AMS error and command, and its payload
  Answered : (id error command : ℕ) (payload : List ℕ) → Heard
  -- a sample of a notification, with its stamp's moment
  Sampled : (handle time : ℕ) (bytes : List ℕ) → Heard
  -- a notification has ended
  Ended : (handle : ℕ) → Heard
  -- a response to no request that is outstanding
  Stray : (id : ℕ) → Heard
  -- no answer came to the request that was sent at this moment
  TimedOut : (id sent now : ℕ) → Heard
  -- all bytes that came are heard
  NotYet : Heard
  Broken : Peer → Heard

-- a sample with its stamp's moment
pub record StampedSample : Type 0 where
  pub time : ℕ
  pub sample : Sample

-- the samples of a notification, in its order
abbrev pub samples_of_stamp : Stamp → List StampedSample
samples_of_stamp s = map (λ sample. record { time = s.time; sample = sample }) s.samples

abbrev pub samples_of_stamps : List Stamp → List StampedSample
samples_of_stamps stamps = flat_map samples_of_stamp stamps

-- That a sample of no byte says that its notification has ended is this project's own choice.
abbrev pub heard_of_sample : StampedSample → Heard
heard_of_sample s =
    if length s.sample.bytes == 0 then Ended s.sample.handle
    else Sampled s.sample.handle s.time s.sample.bytes
