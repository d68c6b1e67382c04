-- The notifications of one connection, and what becomes of them.
-- Beckhoff Information System, "ADS Add Device Notification", "ADS Delete Device Notification".
use Rattle.std.specs.Prelude.{ℕ, ◌+◌, ◌<◌, ◌≤◌, List, [], ◌∷◌, ◌++◌, length, map, filter, fold, find, All}
use Rattle.std.specs.Prelude.{Bool, ◌||◌, ◌&&◌, not, ◌==◌, nat_le, if◌then◌else◌, Option}
use Rattle.std.specs.List.{list_any}
use Rattle.std.specs.List.Sorted.{IsStrictlyIncreasing}
use Rattle.spec_formats.specs.Ranges.{Bytes, Bit, Size}
use Rattle.spec_machine.specs.WatchedRanges.{Watched, InArea, Own}
use Rattle.spec_machine.specs.Watches.{Watch, is_due, checked_watch, watches_after_reload}
use Rattle.spec_machine.specs.Requests.{MAX_WATCHED, MAX_WATCHES}
use Rattle.spec_machine.specs.ByName.{MAX_NUMBER}

-- how many bytes a check takes: one for a bit
abbrev pub watched_len : Watched → ℕ
watched_len (InArea (Bytes area offset len)) = len
watched_len (InArea (Bit area offset bit)) = 1
watched_len (InArea (Size area)) = 0
watched_len (Own first len) = len

-- at least one byte and at most 2,048, or a bit; no size of an area
abbrev pub CanBeWatched : Watched → Type 0
CanBeWatched watched = (0 < watched_len watched) × (watched_len watched ≤ MAX_WATCHED)

-- the live notifications by rising handle, and how many were added
pub record WatchTable : Type 0 where
  pub watches : List (Watch Watched)
  pub additions : ℕ

abbrev pub no_watches : WatchTable
no_watches = record { watches = []; additions = 0 }

-- no further notification can be added
abbrev pub is_full : WatchTable → Bool
is_full t = nat_le MAX_WATCHES (length t.watches) || nat_le MAX_NUMBER t.additions

abbrev pub is_numbered : ℕ → Watch Watched → Bool
is_numbered handle w = w.handle == handle

abbrev pub is_of_port : ℕ → ℕ → Watch Watched → Bool
is_of_port port handle w = (w.handle == handle) && (w.port == port)

-- a live notification of this port has the handle
abbrev pub is_live : ℕ → ℕ → WatchTable → Bool
is_live port handle t = list_any (is_of_port port handle) t.watches

-- the live notification with a handle
abbrev pub watch_of_handle : ℕ → WatchTable → Option (Watch Watched)
watch_of_handle handle t = find (is_numbered handle) t.watches

abbrev pub handle_of : Watch Watched → ℕ
handle_of w = w.handle

-- the handles of the notifications whose check is due at a moment
abbrev pub due_handles : ℕ → WatchTable → List ℕ
due_handles now t = map handle_of (filter (λ (w : Watch Watched). is_due now w) t.watches)

abbrev pub IsWatchable : Watch Watched → Type 0
IsWatchable w = CanBeWatched w.watched

-- what holds of the notifications of a connection, whatever happened to them: handles rise and were
-- granted, at most 512 are live, and each may be watched
pub record IsTable (t : WatchTable) : Type 0 where
  pub rise : IsStrictlyIncreasing (map handle_of t.watches)
  pub granted : All (λ w. (0 < w.handle) × (w.handle ≤ t.additions)) t.watches
  pub few : length t.watches ≤ MAX_WATCHES
  pub watched : All IsWatchable t.watches

-- what changes the notifications of a connection: one is added; one is deleted; the one with this
-- handle is checked at a moment, where these are its bytes; a reload, which tells what is watched
-- from then on, if anything
pub data WatchEvent : Type 0 where
  Added : Watch Watched → WatchEvent
  Deleted : ℕ → WatchEvent
  Checked : (handle now : ℕ) (bytes : List ℕ) → WatchEvent
  Reloaded : (ℕ → Watched → Option Watched) → WatchEvent

abbrev pub checked_where : ℕ → ℕ → List ℕ → Watch Watched → Watch Watched
checked_where handle now bytes w = if is_numbered handle w then checked_watch now bytes w else w

abbrev pub table_after : WatchTable → WatchEvent → WatchTable
table_after t (Added w) = record { watches = t.watches ++ w ∷ []; additions = t.additions + 1 }
table_after t (Deleted handle) = record t { watches = filter (λ w. not (is_numbered handle w)) t.watches }
table_after t (Checked handle now bytes) = record t { watches = map (checked_where handle now bytes) t.watches }
table_after t (Reloaded moves) = record t { watches = watches_after_reload moves t.watches }

-- the notifications after all that happened to them
abbrev pub table_of : List WatchEvent → WatchTable
table_of history = fold table_after no_watches history
