-- What happened to the handles of a connection in a log, and that its handles are what that says.
use Rattle.std.specs.Prelude.{◌≡◌, ℕ, List, [], ◌∷◌, ◌++◌, length, flat_map, Bool, false, not, ◌==◌, if◌then◌else◌}
use Rattle.std.specs.Prelude.{Option, Some, None, Result, Ok, Err}
use Rattle.signals.specs.Wave.{Wave}
use Rattle.spec_plant.specs.Description.{Description}
use Rattle.spec_plant.specs.World.{plant_of}
use Rattle.ads_outside.specs.declared.event.Event.{Event}
use Rattle.ads_outside.specs.declared.event.Event.TheVariants as event
use Rattle.ads_outside.specs.declared.moves.Move.{Move}
use Rattle.ads_outside.specs.declared.moves.Move.TheVariants as move
use Rattle.spec_machine.specs.Device.{DescriptionFault}
use Rattle.spec_machine.specs.Connection.{Connection, connection_of, is_deaf}
use Rattle.spec_machine.specs.MachineState.{MachineState}
use Rattle.spec_machine.specs.Moves.{state_after_move, state_after}
use Rattle.spec_machine.specs.Profile.{Profile}
use Rattle.spec_machine.specs.World.{World}
use Rattle.spec_machine.specs.Handles.{HandleEvent, Grant, Release, Reload, kept_status, status_of}
use Rattle.spec_machine.specs.Client.{Place, Client, Effect, NoEffect, Grants, Releases, Adds, Deletes, kept_place}
use Rattle.spec_machine.specs.Acts.{Act, effect_of}
use Rattle.spec_machine.specs.Reloads.{is_kept}
use Rattle.spec_machine.specs.AdsDevice.{DescriptionReading, server_step}
use Rattle.spec_machine.specs.Projection.{acts_at}
use Rattle.spec_laws.specs.Isolation.{start_in}

-- of an accepted request
abbrev pub handle_events_of : Effect → List (HandleEvent Place)
handle_events_of NoEffect = []
handle_events_of (Grants port place) = Grant port place ∷ []
handle_events_of (Releases handle) = Release handle ∷ []
handle_events_of (Adds watch) = []
handle_events_of (Deletes handle) = []

abbrev pub handle_events_of_acts : List Act → List (HandleEvent Place)
handle_events_of_acts acts = flat_map (λ a. handle_events_of (effect_of a)) acts

-- of a reload: where its description is accepted, places of kept symbols stay
abbrev pub handle_events_of_reload : World → Result Description DescriptionFault → List (HandleEvent Place)
handle_events_of_reload w (Err fault) = []
handle_events_of_reload w (Ok d) = Reload (kept_place (is_kept w.plant (plant_of d))) ∷ []

-- a connection that is closing or gone, or not opened yet, is not heard
abbrev pub is_heard : Option (Connection Client) → Bool
is_heard None = false
is_heard (Some k) = not (is_deaf k)

-- what an event brings to the handles of a connection: its own accepted requests, and accepted reloads
unfoldable pub handle_events_of_event : DescriptionReading → ℕ → MachineState World Client → Event
    → List (HandleEvent Place)
handle_events_of_event reading c s (event.Piece n bytes) =
    if n == c then handle_events_of_acts (acts_at reading s bytes (connection_of n s.connections)) else []
handle_events_of_event reading c s (event.Reload bytes) =
    if is_heard (connection_of c s.connections)
    then handle_events_of_reload s.world (reading bytes (length s.world.signals)) else []
handle_events_of_event reading c s e = []

abbrev pub handle_events_of_move : DescriptionReading → ℕ → MachineState World Client → Move
    → List (HandleEvent Place)
handle_events_of_move reading c s (move.Event e) = handle_events_of_event reading c s e
handle_events_of_move reading c s m = []

-- the history of a connection's handles in a log
unfoldable pub handle_history : DescriptionReading → ℕ → MachineState World Client → List Move
    → List (HandleEvent Place)
handle_history reading c s [] = []
handle_history reading c s (m ∷ ms) =
    handle_events_of_move reading c s m
    ++ handle_history reading c (state_after_move (server_step reading) s m) ms

-- In every state a handle has the status that this history gives it.
abbrev pub HandlesAreHistory : Type 0
HandlesAreHistory = (reading : DescriptionReading) (profile : Profile) (d : Description)
    (signals : List Wave) (log : List Move) (c : ℕ) (k : Connection Client)
    → connection_of c (state_after (server_step reading) (start_in profile d signals) log).connections ≡ Some k
    → (handle port : ℕ) → kept_status k.client.handles handle port
    ≡ status_of (handle_history reading c (start_in profile d signals) log) handle port
