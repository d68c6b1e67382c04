-- What a link to the server in the same process is, and the logs that it tells.
use Rattle.std.specs.Prelude.{◌≡◌, ◌⊎◌, ℕ, List, [], length, min, Bool, false, Some}
use Rattle.ads_outside.specs.declared.event.Event.TheVariants as event
use Rattle.ads_outside.specs.declared.link_move.LinkMove.{LinkMove}
use Rattle.ads_outside.specs.declared.received.Received.{Received}
use Rattle.ads_outside.specs.declared.received.Received.TheVariants as received
use Rattle.ads_outside.specs.LinkState.{LinkHistory, LinkState}
use Rattle.spec_machine.specs.Offers.{waiting_at}
use Rattle.spec_machine.specs.Running.{first_frame}
use Rattle.spec_local.specs.LocalCall.{next_tick}
use Rattle.spec_local.specs.LinkLog.{IsLogOf, machine_after_log}
use Rattle.server_core.specs.CoreState.{CoreState}
use Rattle.server_core.specs.Served.{ServedState, served_step}
use Rattle.server_core.specs.Serves.{CoreView, Serves}

pub record LocalView : Type 0 where
  pub core : CoreView
  pub history : LinkHistory
  -- memory was wanting: nothing is answered any more
  pub wanting : Bool

-- no call fails
abbrev pub state_of : LocalView → LinkState
state_of l = record { history = l.history; faults = 0 }

-- a machine in this state, none of whose connections is blocked
abbrev pub unblocked : ServedState → CoreState
unblocked s = record { state = s; blocked = [] }

-- the link's core stands for a state, and the link's last moment is the machine's
pub record StandsFor (l : LocalView) (s : ServedState) : Type 0 where
  pub core : Serves l.core (unblocked s)
  pub moment : l.history.moment ≡ s.moment

-- The log is one of the machine that was in the origin's state, and the link stands for the machine behind it, until
-- memory was wanting.
pub record IsTold (l : LocalView) (origin : ServedState) (log : List LinkMove) : Type 0 where
  pub is_log : IsLogOf served_step origin log
  pub stands : l.wanting ≡ false → StandsFor l (machine_after_log served_step origin log)

-- so many bytes are the first frame that waits for connection 1, as far as a buffer of this size takes it
pub record TakesFirst (n size : ℕ) (s : ServedState) : Type 0 where
  pub left : List ℕ
  pub first : first_frame (waiting_at 1 s) ≡ Some left
  pub whole : n ≡ min (length left) size

-- at once, or behind a tick
abbrev pub TakesNext : ℕ → ℕ → ServedState → Type 0
TakesNext n size s = TakesFirst n size s ⊎ TakesFirst n size (served_step s (event.Tick (next_tick s.moment)))

-- bytes that come are never fewer
abbrev pub ComesWhole : Received → ℕ → ServedState → Type 0
ComesWhole (received.Bytes n now) size s = TakesNext n size s
ComesWhole (received.Quiet now) size s = Unit {0}
ComesWhole (received.Closed now) size s = Unit {0}
ComesWhole received.Failed size s = Unit {0}
ComesWhole received.Memory size s = Unit {0}
