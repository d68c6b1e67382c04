-- A link in memory: it gives what comes in order, and writes its log.
use Rattle.std.specs.Prelude.{◌≡◌, ℕ, ◌≤◌, ◌<◌, ◌+◌, ◌^◌, ◌-◌, ◌==◌, List, [], ◌∷◌, ◌++◌, length, take, drop}
use Rattle.std.specs.Prelude.{flat_map, min, max, nat_lt, if◌then◌else◌, Option, Some, None, slice_get}
use Rattle.ads_outside.specs.declared.connected.Connected.{Connected}
use Rattle.ads_outside.specs.declared.connected.Connected.TheVariants as connected
use Rattle.ads_outside.specs.declared.sent.Sent.{Sent}
use Rattle.ads_outside.specs.declared.sent.Sent.TheVariants as sent
use Rattle.ads_outside.specs.declared.received.Received.{Received}
use Rattle.ads_outside.specs.declared.received.Received.TheVariants as received
use Rattle.ads_outside.specs.declared.link_event.LinkEvent.{LinkEvent}
use Rattle.ads_outside.specs.declared.link_event.LinkEvent.TheVariants as event
use Rattle.ads_outside.specs.declared.link_move.LinkMove.{LinkMove}
use Rattle.ads_outside.specs.declared.link_move.LinkMove.TheVariants as move
use Rattle.ads_outside.specs.FailingCalls.{FailingCalls, none_made, fails_next, called, faulted}
use Rattle.ads_outside.specs.LinkState.{LinkHistory, LinkState, not_connected, connected_at, bytes_came, quiet_came, closed_came, broke_off}

pub record HeldLink : Type 0 where
  -- what comes, in order; how much of it came, and how many bytes of the next of it
  pub events : List LinkEvent
  pub given : ℕ
  pub used : ℕ
  pub log : List LinkMove
  pub history : LinkHistory
  pub failing : FailingCalls

abbrev pub unused_link : List LinkEvent → List ℕ → HeldLink
unused_link events fails = record {
  events = events;
  given = 0;
  used = 0;
  log = [];
  history = not_connected;
  failing = none_made fails;
}

abbrev pub state_of_link : HeldLink → LinkState
state_of_link l = record { history = l.history; faults = l.failing.faults }

-- all bytes that were sent
abbrev pub sent_by_move : LinkMove → List ℕ
sent_by_move (move.Connected to now) = []
sent_by_move (move.Refused to) = []
sent_by_move (move.Sent bytes) = bytes
sent_by_move (move.Came e) = []

abbrev pub sent_in : List LinkMove → List ℕ
sent_in log = flat_map sent_by_move log

abbrev pub moment_of : LinkEvent → ℕ
moment_of (event.Bytes bytes now) = now
moment_of (event.Quiet now) = now
moment_of (event.Closed now) = now

-- a moment that falls is the last one
abbrev pub moment_in : HeldLink → Option LinkEvent → ℕ
moment_in l None = l.history.moment
moment_in l (Some e) = max l.history.moment (moment_of e)

-- the moment of what comes next, or the last one
abbrev pub next_moment : HeldLink → ℕ
next_moment l = moment_in l (slice_get l.events l.given)

-- what is answered, want of memory aside
abbrev pub connected_of : HeldLink → Connected
connected_of l = if fails_next l.failing then connected.Failed else connected.Ready (next_moment l)

abbrev pub sent_of : HeldLink → Sent
sent_of l = if fails_next l.failing then sent.Failed else sent.All

-- so many bytes come at most in one call
abbrev pub MOST_BYTES : ℕ
MOST_BYTES = 2 ^ 32 - 1

abbrev pub bytes_or_quiet : ℕ → List ℕ → ℕ → LinkEvent
bytes_or_quiet n left now = if n == 0 then event.Quiet now else event.Bytes (take n left) now

-- of the bytes that are left as many as a buffer of this size takes; where none are left, nothing
abbrev pub piece_of : List ℕ → ℕ → ℕ → LinkEvent
piece_of left now size = bytes_or_quiet (min (min (length left) size) MOST_BYTES) left now

-- behind the last event, the peer has closed the connection
abbrev pub coming_from : Option LinkEvent → ℕ → ℕ → ℕ → LinkEvent
coming_from None used now size = event.Closed now
coming_from (Some (event.Bytes bytes moment)) used now size = piece_of (drop used bytes) now size
coming_from (Some (event.Quiet moment)) used now size = event.Quiet now
coming_from (Some (event.Closed moment)) used now size = event.Closed now

-- what comes next into a buffer of this size
abbrev pub coming : HeldLink → ℕ → LinkEvent
coming l size = coming_from (slice_get l.events l.given) l.used (next_moment l) size

abbrev pub received_as : LinkEvent → Received
received_as (event.Bytes bytes now) = received.Bytes (length bytes) now
received_as (event.Quiet now) = received.Quiet now
received_as (event.Closed now) = received.Closed now

abbrev pub received_of : HeldLink → ℕ → Received
received_of l size = if fails_next l.failing then received.Failed else received_as (coming l size)

-- what is held after such an answer
abbrev pub after_connect : Connected → HeldLink → List ℕ → HeldLink
after_connect (connected.Ready now) l to = record l {
  log = l.log ++ move.Connected to now ∷ [];
  history = connected_at now;
  failing = called l.failing;
}
after_connect connected.Failed l to =
    record l { log = l.log ++ move.Refused to ∷ []; failing = faulted l.failing }
after_connect connected.Memory l to = record l { failing = called l.failing }

-- a call that fails sends nothing
abbrev pub after_send : Sent → HeldLink → List ℕ → HeldLink
after_send sent.All l bytes = record l { log = l.log ++ move.Sent bytes ∷ []; failing = called l.failing }
after_send sent.Failed l bytes = record l { failing = faulted l.failing }
after_send sent.Memory l bytes = record l { failing = called l.failing }

abbrev pub history_after : LinkHistory → LinkEvent → LinkHistory
history_after h (event.Bytes bytes now) = bytes_came now h
history_after h (event.Quiet now) = quiet_came now h
history_after h (event.Closed now) = closed_came now h

-- where it stands among the events
pub record Place : Type 0 where
  pub given : ℕ
  pub used : ℕ

-- behind this event
abbrev pub next_place : ℕ → Place
next_place given = record { given = given + 1; used = 0 }

-- so many bytes of an event with so many left are given
abbrev pub place_within : ℕ → ℕ → ℕ → ℕ → Place
place_within given used left n =
    if nat_lt n left then record { given = given; used = used + n } else next_place given

-- after so many bytes of the event there
abbrev pub place_after : Option LinkEvent → ℕ → ℕ → ℕ → Place
place_after None given used n = record { given = given; used = used }
place_after (Some (event.Bytes bytes moment)) given used n =
    place_within given used (length (drop used bytes)) n
place_after (Some (event.Quiet moment)) given used n = next_place given
place_after (Some (event.Closed moment)) given used n = next_place given

abbrev pub bytes_in : LinkEvent → List ℕ
bytes_in (event.Bytes bytes now) = bytes
bytes_in (event.Quiet now) = []
bytes_in (event.Closed now) = []

abbrev pub size_of : LinkEvent → ℕ
size_of e = length (bytes_in e)

-- bytes that came are some, and fit into a buffer of this size
abbrev pub Fits : LinkEvent → ℕ → Type 0
Fits (event.Bytes bytes now) size = (0 < length bytes) × (length bytes ≤ size) × (length bytes < 2 ^ 32)
Fits (event.Quiet now) size = Unit {0}
Fits (event.Closed now) size = Unit {0}

-- it tells its log
abbrev pub IsTold : HeldLink → List LinkEvent → List LinkMove → Type 0
IsTold l events log = (l.events ≡ events) × (l.log ≡ log)

-- it goes on to this place
abbrev pub at_place : Place → HeldLink → HeldLink
at_place p l = record l { given = p.given; used = p.used }

-- this came
abbrev pub after_coming : LinkEvent → HeldLink → HeldLink
after_coming e l = at_place (place_after (slice_get l.events l.given) l.given l.used (size_of e))
    (record l { log = l.log ++ move.Came e ∷ []; history = history_after l.history e })

-- into a buffer of this size
abbrev pub after_recv : Received → HeldLink → ℕ → HeldLink
after_recv (received.Bytes n now) l size = record (after_coming (coming l size) l) { failing = called l.failing }
after_recv (received.Quiet now) l size = record (after_coming (coming l size) l) { failing = called l.failing }
after_recv (received.Closed now) l size = record (after_coming (coming l size) l) { failing = called l.failing }
after_recv received.Failed l size =
    record l { history = broke_off l.history; failing = faulted l.failing }
after_recv received.Memory l size = record l { failing = called l.failing }
