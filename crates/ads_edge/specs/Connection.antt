-- What is known of a connection: how far it has come, and what waits for its peer.
use Rattle.std.specs.Prelude.{ℕ, ◌≡◌, ◌≤◌, ◌-◌, List, [], drop, length, vec_len, Bool, true, false, not, ◌==◌, ◌&&◌, ◌||◌, nat_lt, if◌then◌else◌}
use Rattle.ads_edge.specs.declared.arrived.Arrived.{Arrived}
use Rattle.ads_edge.specs.declared.arrived.Arrived.TheVariants as arrived
use Rattle.ads_edge.specs.declared.connection.Connection.{Connection}
use Rattle.ads_edge.specs.declared.connection.TheConstants.{STALLED_TICKS, PARTING_TICKS}
use Rattle.ads_edge.specs.declared.out_buffer.TheConstants.{OUT_ROOM}
use Rattle.ads_edge.specs.declared.stage.Stage.{Stage}
use Rattle.ads_edge.specs.declared.stage.Stage.TheVariants as stage
use Rattle.ads_edge.specs.Waiting.{waiting}

-- the server is done with a connection that has come so far
abbrev pub is_left : Stage → Bool
is_left stage.Served = false
is_left stage.Failed = false
is_left stage.Leaving = true
is_left stage.Parting = true

-- bytes wait to be sent
abbrev pub has_waiting : Connection → Bool
has_waiting c = not (c.out.sent == vec_len c.out.bytes)

-- an offer was short, and there is room again
abbrev pub takes_again : Connection → Bool
takes_again c = c.short && nat_lt (vec_len c.out.bytes) OUT_ROOM

-- a connection that was just accepted: served, nothing waits, nothing is to be done for it
pub record IsOpened (number : ℕ) (now : ℕ) (c : Connection) : Type 0 where
  pub numbered : c.number ≡ number
  pub served : c.stage ≡ stage.Served
  pub alive : c.alive ≡ now
  pub nothing_waits : waiting c.out ≡ []
  pub unlisted : (c.to_read ≡ false) × (c.to_send ≡ false)
  pub unended : (c.hung ≡ false) × (c.ended ≡ false)
  pub unshort : c.short ≡ false

-- the connection once the server is done with it
abbrev pub left : Connection → Connection
left c = record c { stage = stage.Leaving; patience = STALLED_TICKS }

-- the connection once all was sent to its peer
abbrev pub parted : Connection → Connection
parted c = record c { stage = stage.Parting; patience = PARTING_TICKS }

-- the connection a tick later
abbrev pub a_tick_older : Connection → Connection
a_tick_older c = if is_left c.stage then record c { patience = c.patience - 1 } else c

-- the connection stays over a tick: it is served, or its patience is not at its end
abbrev pub stays : Connection → Bool
stays c = not (is_left c.stage) || nat_lt 1 c.patience

-- what waits now is what waited, less some first bytes
pub record IsRest (before now : List ℕ) : Type 0 where
  pub sent : ℕ
  pub within : sent ≤ length before
  pub rest : now ≡ drop sent before

-- only what waits, its patience and its last sign of life may differ
abbrev pub MaySend : Connection → Connection → Type 0
MaySend before now = now ≡ record before { out = now.out; patience = now.patience; alive = now.alive }

-- the beat of the last sign of life after a reading: this one where bytes came
abbrev pub alive_after : Arrived → ℕ → ℕ → ℕ
alive_after (arrived.Bytes n) now before = now
alive_after arrived.Nothing now before = before
alive_after arrived.End now before = before
alive_after arrived.Failed now before = before
