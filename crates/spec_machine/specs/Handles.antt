-- Symbol handles of one client, over any kind of place. What a handle is good for follows from the
-- client's history: its grants, its releases, and the reloads. Topic: ADSIGRP_SYM_HNDBYNAME.
use Rattle.std.specs.Prelude.{ℕ, ◌-◌, List, [], ◌∷◌, ◌++◌, length, map, filter, Bool, true, false}
use Rattle.std.specs.Prelude.{◌||◌, not, ◌==◌, if◌then◌else◌, Option, Some, None, option_and_then}

pub data HandleStatus (P : Type 0) : Type 0 where
  Never : HandleStatus P
  Released : HandleStatus P
  Outdated : HandleStatus P
  Live : P → HandleStatus P

-- A grant of a place at a port; a release of a handle; and a reload, which for a port and a place
-- there tells the new place, or none.
pub data HandleEvent (P : Type 0) : Type 0 where
  Grant : ℕ → P → HandleEvent P
  Release : ℕ → HandleEvent P
  Reload : (ℕ → P → Option P) → HandleEvent P

-- a grant, and what came after it
pub record GrantInHistory (P : Type 0) : Type 0 where
  pub port : ℕ
  pub place : P
  pub later : List (HandleEvent P)

-- the n-th grant of a history, counted from 1, has the handle n
unfoldable pub grant_in : {P : Type 0} → List (HandleEvent P) → ℕ → Option (GrantInHistory P)
grant_in [] n = None
grant_in (Grant port place ∷ events) n =
    if n == 1 then Some (record { port = port; place = place; later = events })
    else grant_in events (n - 1)
grant_in (Release handle ∷ events) n = grant_in events n
grant_in (Reload moves ∷ events) n = grant_in events n

unfoldable pub is_released_in : {P : Type 0} → List (HandleEvent P) → ℕ → Bool
is_released_in [] n = false
is_released_in (Grant port place ∷ events) n = is_released_in events n
is_released_in (Release handle ∷ events) n = (handle == n) || is_released_in events n
is_released_in (Reload moves ∷ events) n = is_released_in events n

-- where a place is after all reloads; none once a reload does not keep it
unfoldable pub place_after : {P : Type 0} → List (HandleEvent P) → ℕ → P → Option P
place_after [] port place = Some place
place_after (Grant other granted ∷ events) port place = place_after events port place
place_after (Release handle ∷ events) port place = place_after events port place
place_after (Reload moves ∷ events) port place =
    option_and_then (place_after events port) (moves port place)

abbrev pub live_or_outdated : {P : Type 0} → Option P → HandleStatus P
live_or_outdated None = Outdated
live_or_outdated (Some place) = Live place

-- The first that holds: never granted at this port, released, outdated, live.
abbrev pub status_of_grant : {P : Type 0} → ℕ → ℕ → Option (GrantInHistory P) → HandleStatus P
status_of_grant handle port None = Never
status_of_grant handle port (Some g) =
    if not (g.port == port) then Never
    else if is_released_in g.later handle then Released
    else live_or_outdated (place_after g.later g.port g.place)

-- the status of a handle at a port
abbrev pub status_of : {P : Type 0} → List (HandleEvent P) → ℕ → ℕ → HandleStatus P
status_of history handle port = status_of_grant handle port (grant_in history handle)

-- the same kept along: the handles that were granted, in order, each with its status
pub record Handle (P : Type 0) : Type 0 where
  pub port : ℕ
  pub status : HandleStatus P

abbrev pub is_live : {P : Type 0} → HandleStatus P → Bool
is_live Never = false
is_live Released = false
is_live Outdated = false
is_live (Live place) = true

abbrev pub live_count : {P : Type 0} → List (Handle P) → ℕ
live_count {P} handles = length (filter (λ (h : Handle P). is_live h.status) handles)

-- the n-th handle, counted from 1
unfoldable pub handle_in : {P : Type 0} → List (Handle P) → ℕ → Option (Handle P)
handle_in [] n = None
handle_in (h ∷ hs) n = if n == 1 then Some h else handle_in hs (n - 1)

abbrev pub status_of_handle : {P : Type 0} → ℕ → Option (Handle P) → HandleStatus P
status_of_handle port None = Never
status_of_handle port (Some h) = if h.port == port then h.status else Never

abbrev pub kept_status : {P : Type 0} → List (Handle P) → ℕ → ℕ → HandleStatus P
kept_status handles handle port = status_of_handle port (handle_in handles handle)

unfoldable pub with_released : {P : Type 0} → List (Handle P) → ℕ → List (Handle P)
with_released [] n = []
with_released (h ∷ hs) n =
    if n == 1 then record h { status = Released } ∷ hs else h ∷ with_released hs (n - 1)

abbrev pub status_after_reload : {P : Type 0} → (P → Option P) → HandleStatus P → HandleStatus P
status_after_reload moves Never = Never
status_after_reload moves Released = Released
status_after_reload moves Outdated = Outdated
status_after_reload moves (Live place) = live_or_outdated (moves place)

abbrev pub handle_after_reload : {P : Type 0} → (ℕ → P → Option P) → Handle P → Handle P
handle_after_reload moves h = record h { status = status_after_reload (moves h.port) h.status }

unfoldable pub handles_after : {P : Type 0} → List (Handle P) → HandleEvent P → List (Handle P)
handles_after handles (Grant port place) =
    handles ++ record { port = port; status = Live place } ∷ []
handles_after handles (Release handle) = with_released handles handle
handles_after handles (Reload moves) = map (handle_after_reload moves) handles
