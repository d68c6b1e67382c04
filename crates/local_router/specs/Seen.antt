-- The state of a wire with a router. It tells neither its log nor its streams: the wire inside took answers that the server never
-- offered. Without a router it is the state of the wire inside.
use Rattle.std.specs.Prelude.{◌≡◌, ℕ, ◌+◌, Option, Some, None}
use Rattle.ads_outside.specs.WireState.{WireHistory, WireState}

module _ {Net : Type 0} where
  abbrev pub told_seen : {T : Type 0} → Option Net → Option T → Option T
  told_seen None told = told
  told_seen (Some net) told = None

  -- the events that were given, which are fewer than those inside where memory was wanting
  abbrev pub events_seen : Option Net → ℕ → ℕ → ℕ
  events_seen None own inside = inside
  events_seen (Some net) own inside = own

  abbrev pub wants_seen : Option Net → ℕ → ℕ → ℕ
  wants_seen None own inside = inside
  wants_seen (Some net) own inside = own + inside

  abbrev pub history_seen : Option Net → ℕ → WireHistory → WireHistory
  history_seen net events h = record h {
    log = told_seen net h.log;
    streams = told_seen net h.streams;
    events = events_seen net events h.events;
  }

  -- by the router, the events given and the wants of its own
  abbrev pub state_seen : Option Net → ℕ → ℕ → WireState → WireState
  state_seen net events wants s = record {
    history = history_seen net events s.history;
    faults = s.faults;
    wants = wants_seen net wants s.wants;
  }

-- what is the same whatever is logged, taken and given
abbrev pub beside : WireHistory → WireHistory
beside h = record h { log = None; streams = None; events = 0 }

abbrev pub SameBeside : WireHistory → WireHistory → Type 0
SameBeside old new = beside new ≡ beside old
