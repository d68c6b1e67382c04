-- What each answer of a link says of its state, and of its log where that is told.
use Rattle.std.specs.Prelude.{◌≡◌, ℕ, zero, suc, ◌≤◌, ◌<◌, List, [], ◌∷◌, ◌++◌, take}
use Rattle.ads_outside.specs.declared.connected.Connected.{Connected}
use Rattle.ads_outside.specs.declared.connected.Connected.TheVariants as connected
use Rattle.ads_outside.specs.declared.sent.Sent.{Sent}
use Rattle.ads_outside.specs.declared.sent.Sent.TheVariants as sent
use Rattle.ads_outside.specs.declared.received.Received.{Received}
use Rattle.ads_outside.specs.declared.received.Received.TheVariants as received
use Rattle.ads_outside.specs.declared.link_event.LinkEvent.TheVariants as event
use Rattle.ads_outside.specs.declared.link_move.LinkMove.{LinkMove}
use Rattle.ads_outside.specs.declared.link_move.LinkMove.TheVariants as move
use Rattle.ads_outside.specs.Rose.{Rose}
use Rattle.ads_outside.specs.LinkState.{LinkState, connected_at, bytes_came, quiet_came, closed_came, broke_off}

-- a failed call raised the count, and all else is as before
pub record LinkFails (old new : LinkState) : Type 0 where
  pub same : new.history ≡ old.history
  pub faulted : Rose old.faults new.faults

-- to receive failed: it raised the count, the history says so, and all else is as before
pub record LinkBreaks (old new : LinkState) : Type 0 where
  pub broken : new.history ≡ broke_off old.history
  pub faulted : Rose old.faults new.faults

abbrev pub Connects : Connected → LinkState → LinkState → Type 0
Connects (connected.Ready now) old new = (new.history ≡ connected_at now)
Connects connected.Failed old new = LinkFails old new
Connects connected.Memory old new = new.history ≡ old.history

abbrev pub Sends : Sent → LinkState → LinkState → Type 0
Sends sent.All old new = new.history ≡ old.history
Sends sent.Failed old new = LinkFails old new
Sends sent.Memory old new = new.history ≡ old.history

-- so many bytes come into a buffer of this size
pub record BringsBytes (n now size : ℕ) (old new : LinkState) : Type 0 where
  pub some : 0 < n
  pub fit : n ≤ size
  pub history : new.history ≡ bytes_came now old.history

-- into a buffer of this size
abbrev pub Receives : Received → ℕ → LinkState → LinkState → Type 0
Receives (received.Bytes n now) size old new = BringsBytes n now size old new
Receives (received.Quiet now) size old new = new.history ≡ quiet_came now old.history
Receives (received.Closed now) size old new = new.history ≡ closed_came now old.history
Receives received.Failed size old new = LinkBreaks old new
Receives received.Memory size old new = new.history ≡ old.history

-- the address is noted, also where the connection failed; want of memory leaves the log as it was
abbrev pub log_after_connect : Connected → List ℕ → List LinkMove → List LinkMove
log_after_connect (connected.Ready now) to log = log ++ move.Connected to now ∷ []
log_after_connect connected.Failed to log = log ++ move.Refused to ∷ []
log_after_connect connected.Memory to log = log

-- so many first bytes were sent
abbrev pub with_part : ℕ → List ℕ → List LinkMove → List LinkMove
with_part zero bytes log = log
with_part (suc n) bytes log = log ++ move.Sent (take (suc n) bytes) ∷ []

-- all was sent, or some first part of it: the log is one of which this holds
abbrev pub TellsSent : (List LinkMove → Type 0) → Sent → List ℕ → List LinkMove → Type 0
TellsSent IsTold sent.All bytes log = IsTold (log ++ move.Sent bytes ∷ [])
TellsSent IsTold sent.Failed bytes log = (n : ℕ) × IsTold (with_part n bytes log)
TellsSent IsTold sent.Memory bytes log = (n : ℕ) × IsTold (with_part n bytes log)

-- what came, with the buffer behind the call
abbrev pub log_after_recv : Received → List ℕ → List LinkMove → List LinkMove
log_after_recv (received.Bytes n now) buf log = log ++ move.Came (event.Bytes (take n buf) now) ∷ []
log_after_recv (received.Quiet now) buf log = log ++ move.Came (event.Quiet now) ∷ []
log_after_recv (received.Closed now) buf log = log ++ move.Came (event.Closed now) ∷ []
log_after_recv received.Failed buf log = log
log_after_recv received.Memory buf log = log
