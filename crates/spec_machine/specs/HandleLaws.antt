-- Laws of handles and notifications over any kind of place.
use Rattle.std.specs.Prelude.{◌≡◌, ℕ, ◌+◌, ◌≤◌, ◌<◌, ◌⊎◌, List, [], ◌∷◌, length, true, Bool}
use Rattle.std.specs.Prelude.{Option, Some, None}
use Rattle.std.specs.Int.{w32, to_le_bytes}
use Rattle.spec_plant.specs.World.{PlantPort}
use Rattle.spec_formats.specs.Codes.{general_device_error}
use Rattle.spec_machine.specs.Handles.{HandleStatus, Never, Released, Outdated, Live, HandleEvent}
use Rattle.spec_machine.specs.Handles.{Reload}
use Rattle.spec_machine.specs.Handles.{status_of, Handle, kept_status, live_count, handles_after}
use Rattle.spec_machine.specs.Watches.{Watch, watches_after_reload, ended_watches}
use Rattle.spec_machine.specs.Client.{Place, Client, Grants}
use Rattle.spec_machine.specs.Acts.{Refusal, changing}
use Rattle.spec_machine.specs.ByName.{MAX_LIVE, MAX_NUMBER, grant_act}

-- the handles of a history, kept along
unfoldable pub handles_after_all : {P : Type 0} → List (Handle P) → List (HandleEvent P)
    → List (Handle P)
handles_after_all handles [] = handles
handles_after_all handles (e ∷ es) = handles_after_all (handles_after handles e) es

abbrev pub handles_of : {P : Type 0} → List (HandleEvent P) → List (Handle P)
handles_of history = handles_after_all [] history

-- The status that is kept along is what the history says.
abbrev pub StatusIsHistory : (P : Type 0) → Type 0
StatusIsHistory P = (history : List (HandleEvent P)) (handle port : ℕ)
    → kept_status (handles_of history) handle port ≡ status_of history handle port

-- A grant is refused exactly where 4,096 handles of the history are live, or it has 4,294,967,295
-- grants; else its handle is one more than those so far.
pub record GrantsByLimit (c : Client) (p : PlantPort) (place : Place) : Type 0 where
  pub full : (MAX_LIVE ≤ live_count c.handles) ⊎ (MAX_NUMBER ≤ length c.handles)
      → grant_act c p place ≡ Refusal general_device_error
  pub granted : live_count c.handles < MAX_LIVE → length c.handles < MAX_NUMBER
      → grant_act c p place ≡ changing (to_le_bytes w32 (length c.handles + 1)) (Grants p.number place)

abbrev pub LimitsGrants : Type 0
LimitsGrants = (c : Client) (p : PlantPort) (place : Place) → GrantsByLimit c p place

-- Two kinds of place, as names and spans, with a test that a place of the one is one of the other.
-- Tables over both agree, and go on to agree over a reload whose moves agree.

abbrev pub Test : (P Q : Type 0) → Type 0
Test P Q = ℕ → P → Q → Bool

abbrev pub AgreeingPlaces : {P Q : Type 0} → Test P Q → ℕ → Option P → Option Q → Type 0
AgreeingPlaces test port (Some p) (Some q) = test port p q ≡ true
AgreeingPlaces test port None None = Unit {0}
AgreeingPlaces test port p q = ⊥

-- moves of places that agree in the old world are places that agree in the new one
abbrev pub AgreeingMoves : {P Q : Type 0} → Test P Q → Test P Q → (ℕ → P → Option P)
    → (ℕ → Q → Option Q) → Type 0
AgreeingMoves {P} {Q} old new moves spans =
    (port : ℕ) (p : P) (q : Q) → old port p q ≡ true → AgreeingPlaces new port (moves port p) (spans port q)

abbrev pub AgreeingStatus : {P Q : Type 0} → Test P Q → ℕ → HandleStatus P → HandleStatus Q → Type 0
AgreeingStatus test port Never Never = Unit {0}
AgreeingStatus test port Released Released = Unit {0}
AgreeingStatus test port Outdated Outdated = Unit {0}
AgreeingStatus test port (Live p) (Live q) = test port p q ≡ true
AgreeingStatus test port s t = ⊥

abbrev pub AgreeingHandles : {P Q : Type 0} → Test P Q → List (Handle P) → List (Handle Q) → Type 0
AgreeingHandles test [] [] = Unit {0}
AgreeingHandles test (h ∷ hs) (k ∷ ks) =
    (k.port ≡ h.port) × AgreeingStatus test h.port h.status k.status × AgreeingHandles test hs ks
AgreeingHandles test hs ks = ⊥

-- two notifications that differ only in the kind of what they watch
pub record AgreeingWatch {P Q : Type 0} (test : Test P Q) (w : Watch P) (v : Watch Q) : Type 0 where
  pub handle : v.handle ≡ w.handle
  pub port : v.port ≡ w.port
  pub address : v.address ≡ w.address
  pub mode : v.mode ≡ w.mode
  pub cycle : v.cycle ≡ w.cycle
  pub last : v.last ≡ w.last
  pub sent : v.sent ≡ w.sent
  pub watched : test w.port w.watched v.watched ≡ true

abbrev pub AgreeingWatches : {P Q : Type 0} → Test P Q → List (Watch P) → List (Watch Q) → Type 0
AgreeingWatches test [] [] = Unit {0}
AgreeingWatches test (w ∷ ws) (v ∷ vs) = AgreeingWatch test w v × AgreeingWatches test ws vs
AgreeingWatches test ws vs = ⊥

-- After a reload whose moves agree, the handles agree in the new world, as do the notifications that go
-- on; and those that end are the same.
pub record AgreeAfterReload {P Q : Type 0} (old new : Test P Q) (moves : ℕ → P → Option P) (spans : ℕ → Q → Option Q) : Type 0 where
  pub handles : (hs : List (Handle P)) (ks : List (Handle Q)) → AgreeingHandles old hs ks
      → AgreeingHandles new (handles_after hs (Reload moves)) (handles_after ks (Reload spans))
  pub watches : (ws : List (Watch P)) (vs : List (Watch Q)) → AgreeingWatches old ws vs
      → AgreeingWatches new (watches_after_reload moves ws) (watches_after_reload spans vs)
  pub ended : (ws : List (Watch P)) (vs : List (Watch Q)) → AgreeingWatches old ws vs
      → AgreeingWatches old (ended_watches moves ws) (ended_watches spans vs)

abbrev pub TablesAgree : (P Q : Type 0) → Type 0
TablesAgree P Q = (old new : Test P Q) (moves : ℕ → P → Option P) (spans : ℕ → Q → Option Q)
    → AgreeingMoves old new moves spans → AgreeAfterReload old new moves spans
