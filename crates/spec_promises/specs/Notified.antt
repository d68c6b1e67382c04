-- What a notification gives over its life. In cycle mode: a sample at its first tick, and then at each tick by which its cycle
-- has passed since the last sample, and at no other. On change: a sample at its first tick; then it is checked as often, and
-- gives a sample exactly where it finds other bytes than those of the sample before.
-- Beckhoff Information System, "ADS Add Device Notification".
use Rattle.std.specs.Prelude.{◌≡◌, ◌≢◌, ◌⊎◌, ℕ, ◌+◌, ◌<◌, ◌≤◌, max, List, [], ◌∷◌, ◌++◌, map, filter, ◌==◌, if◌then◌else◌}
use Rattle.std.specs.Prelude.{Option, Some, None, find}
use Rattle.std.specs.Option.{option_map_or}
use Rattle.signals.specs.Wave.{Wave}
use Rattle.ads_outside.specs.declared.event.Event.TheVariants as event
use Rattle.ads_outside.specs.declared.moves.Move.{Move}
use Rattle.ads_outside.specs.declared.moves.Move.TheVariants as move
use Rattle.spec_plant.specs.Description.{Description}
use Rattle.spec_plant.specs.World.{Block}
use Rattle.spec_machine.specs.Profile.{Profile, strict}
use Rattle.spec_machine.specs.Connection.{Connection, connection_of, is_deaf}
use Rattle.spec_machine.specs.MachineState.{MachineState}
use Rattle.spec_machine.specs.Moves.{state_after_move}
use Rattle.spec_machine.specs.Events.{moment_of_tick}
use Rattle.spec_machine.specs.World.{World}
use Rattle.spec_machine.specs.Access.{Addressed, values_at}
use Rattle.spec_machine.specs.Watches.{Watch, Cyclic, OnChange, AddressedSample}
use Rattle.spec_machine.specs.Client.{Client}
use Rattle.spec_machine.specs.Stamps.{samples_at}
use Rattle.spec_machine.specs.Ticks.{world_after_tick}
use Rattle.spec_server.specs.Server.{server, server_after_in}

-- the notification of a handle; none of a connection that is closing or gone
abbrev pub watch_numbered : ℕ → List (Watch (List Addressed)) → Option (Watch (List Addressed))
watch_numbered handle watches = find (λ (w : Watch (List Addressed)). w.handle == handle) watches

abbrev pub watch_of : ℕ → Option (Connection Client) → Option (Watch (List Addressed))
watch_of handle None = None
watch_of handle (Some k) = if is_deaf k then None else watch_numbered handle k.client.watches

abbrev pub watch_at : ℕ → ℕ → MachineState World Client → Option (Watch (List Addressed))
watch_at c handle s = watch_of handle (connection_of c s.connections)

-- the samples of a notification among those that a tick sends a connection: the bytes of each
abbrev pub bytes_given : ℕ → List AddressedSample → List (List ℕ)
bytes_given handle samples =
    map (λ (s : AddressedSample). s.sample.bytes) (filter (λ (s : AddressedSample). s.sample.handle == handle) samples)

abbrev pub given_to : ℕ → List Block → ℕ → Option (Connection Client) → List (List ℕ)
given_to handle memory now None = []
given_to handle memory now (Some k) =
    if is_deaf k then [] else bytes_given handle (samples_at memory now k.client.watches)

-- a tick in the life of a notification: its moment, the bytes that it then finds, and the samples that it gives
pub record TickSeen : Type 0 where
  pub moment : ℕ
  pub found : List ℕ
  pub given : List (List ℕ)

abbrev pub tick_seen : ℕ → ℕ → MachineState World Client → ℕ → Watch (List Addressed) → TickSeen
tick_seen c handle s t w = record {
  moment = moment_of_tick t s;
  found = values_at (world_after_tick s.world).memory w.watched;
  given = given_to handle (world_after_tick s.world).memory (moment_of_tick t s) (connection_of c s.connections);
}

abbrev pub seen_at : ℕ → ℕ → MachineState World Client → Move → Watch (List Addressed) → List TickSeen
seen_at c handle s (move.Event (event.Tick t)) w = tick_seen c handle s t w ∷ []
seen_at c handle s m w = []

-- the ticks of a notification from a state on, until it is deleted or ends, or its connection does
unfoldable pub life_of : ℕ → ℕ → MachineState World Client → List Move → List TickSeen
life_of c handle s [] = []
life_of c handle s (m ∷ ms) =
    option_map_or (λ (w : Watch (List Addressed)). seen_at c handle s m w ++ life_of c handle (state_after_move server s m) ms)
    (watch_at c handle s) []

-- a sample of what is found, or none
abbrev pub GivesSample : TickSeen → Type 0
GivesSample t = t.given ≡ t.found ∷ []

abbrev pub GivesNone : TickSeen → Type 0
GivesNone t = t.given ≡ []

-- no cycle is shorter than one unit
abbrev pub unit_cycle : ℕ → ℕ
unit_cycle cycle = max cycle 1

-- after a sample at a moment: the next one at the first tick by which the cycle has passed since, and none before
abbrev pub GivesByCycle : ℕ → ℕ → List TickSeen → Type 0
GivesByCycle cycle last [] = Unit {0}
GivesByCycle cycle last (t ∷ ts) =
    (GivesSample t × (last + unit_cycle cycle ≤ t.moment) × GivesByCycle cycle t.moment ts)
    ⊎ (GivesNone t × (t.moment < last + unit_cycle cycle) × GivesByCycle cycle last ts)

-- a first sample at the first tick
abbrev pub IsByCycle : ℕ → List TickSeen → Type 0
IsByCycle cycle [] = Unit {0}
IsByCycle cycle (t ∷ ts) = GivesSample t × GivesByCycle cycle t.moment ts

-- after a check at a moment, and a sample of these bytes: the next check is at the first tick by which the cycle has passed
-- since, and gives a sample exactly where other bytes are found
abbrev pub GivesOnChange : ℕ → ℕ → List ℕ → List TickSeen → Type 0
GivesOnChange cycle checked sent [] = Unit {0}
GivesOnChange cycle checked sent (t ∷ ts) =
    (GivesSample t × (t.found ≢ sent) × (checked + unit_cycle cycle ≤ t.moment) × GivesOnChange cycle t.moment t.found ts)
    ⊎ ((GivesNone t × (t.found ≡ sent) × (checked + unit_cycle cycle ≤ t.moment) × GivesOnChange cycle t.moment sent ts)
    ⊎ (GivesNone t × (t.moment < checked + unit_cycle cycle) × GivesOnChange cycle checked sent ts))

-- a first sample at the first tick
abbrev pub IsOnChange : ℕ → List TickSeen → Type 0
IsOnChange cycle [] = Unit {0}
IsOnChange cycle (t ∷ ts) = GivesSample t × GivesOnChange cycle t.moment t.found ts

-- by the mode of the notification
pub record GivesAsAsked (w : Watch (List Addressed)) (life : List TickSeen) : Type 0 where
  pub cyclic : w.mode ≡ Cyclic → IsByCycle w.cycle life
  pub on_change : w.mode ≡ OnChange → IsOnChange w.cycle life

-- a notification that no tick has checked yet gives as it was asked, whatever comes
abbrev pub NotifiesAfterIn : Profile → Description → List Wave → List Move → List Move → Type 0
NotifiesAfterIn profile d waves before after = (c handle : ℕ) (w : Watch (List Addressed))
    → watch_at c handle (server_after_in profile d waves before) ≡ Some w → w.last ≡ None
    → GivesAsAsked w (life_of c handle (server_after_in profile d waves before) after)

-- So in every log, of the server of each profile.
abbrev pub EachNotifies : Type 0
EachNotifies = (profile : Profile) (d : Description) (waves : List Wave) (before after : List Move)
    → NotifiesAfterIn profile d waves before after

-- and so of the program `ads`, which is the strict one, without a right for others
abbrev pub NotifiesAfter : Description → List Wave → List Move → List Move → Type 0
NotifiesAfter d waves before after = NotifiesAfterIn strict d waves before after

abbrev pub ServerNotifies : Type 0
ServerNotifies = (d : Description) (waves : List Wave) (before after : List Move) → NotifiesAfter d waves before after
