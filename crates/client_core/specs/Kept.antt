-- What a client keeps, as contracts see it: less than its history.
use Rattle.std.specs.Prelude.{ℕ, ◌+◌, List, length, Option, Some, None}
use Rattle.ads_base.specs.declared.peer.Peer.{Peer}
use Rattle.ams_tcp.specs.Held.{Held}
use Rattle.spec_formats.specs.Header.{AmsAddress}
use Rattle.spec_client.specs.Heard.{StampedSample}
use Rattle.spec_client.specs.Unanswered.{Unanswered}

pub record Kept : Type 0 where
  pub me : AmsAddress
  pub peer : AmsAddress
  -- the invoke id that was given last
  pub last_id : ℕ
  -- in the order of issue
  pub unanswered : List Unanswered
  -- the bytes behind the frames that were cut
  pub stream : Held
  -- an AMS packet that was cut and is not heard yet, which want of memory leaves
  pub waiting : Option (List ℕ)
  -- of the notification that was heard last, those not told yet
  pub samples : List StampedSample
  -- what the peer did wrong, once it was told
  pub broken : Option Peer

-- how many packets wait
abbrev pub waiting_count : Option (List ℕ) → ℕ
waiting_count None = 0
waiting_count (Some packet) = 1

-- what is left to be cut and heard falls with each packet
abbrev pub bytes_left : Kept → ℕ
bytes_left k = length k.stream.rest + waiting_count k.waiting
