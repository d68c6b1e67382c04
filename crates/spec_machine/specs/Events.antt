-- What an event makes of the server's machine: connections are opened and closed, pieces are taken, and
-- ticks and reloads reach the device and each of its clients.
use Rattle.std.specs.Prelude.{ℕ, ◌+◌, [], ◌∷◌, ◌++◌, max, map, if◌then◌else◌}
use Rattle.ads_outside.specs.declared.event.Event.{Event}
use Rattle.ads_outside.specs.declared.event.Event.TheVariants as event
use Rattle.spec_machine.specs.Device.{Device, ClientOutcome, Reloading, Accepted, Refused}
use Rattle.spec_machine.specs.Connection.{Connection, fresh_connection, connection_of, is_deaf}
use Rattle.spec_machine.specs.Connection.{produce_all}
use Rattle.spec_machine.specs.MachineState.{MachineState, after_exchange}
use Rattle.spec_machine.specs.Piece.{with_client, after_piece}
use Rattle.spec_machine.specs.Moves.{with_gone}

-- a connection after what the device does for its client at a tick or a reload
abbrev pub after_client_outcome : {C : Type 0} → ClientOutcome C → Connection C → Connection C
after_client_outcome o k = produce_all o.frames (with_client o.client k)

-- the moment of a tick; one that goes back counts as the last moment
abbrev pub moment_of_tick : {W C : Type 0} → ℕ → MachineState W C → ℕ
moment_of_tick t s = max s.moment t

unfoldable pub connection_after_tick : {W C : Type 0} → Device W C → ℕ → W → Connection C
    → Connection C
connection_after_tick device moment world k =
    if is_deaf k then k else after_client_outcome (device.client_after_tick moment world k.client) k

-- a tick: the world, then each connection
abbrev pub after_tick : {W C : Type 0} → Device W C → ℕ → W → MachineState W C → MachineState W C
after_tick device moment world s = record s {
  world = world;
  moment = moment;
  connections = map (connection_after_tick device moment world) s.connections;
}

unfoldable pub connection_after_reload : {W C : Type 0} → Device W C → ℕ → W → W → Connection C
    → Connection C
connection_after_reload device moment old new k =
    if is_deaf k then k
    else after_client_outcome (device.client_after_reload moment old new k.client) k

-- a refused reload adds to the refusals and changes nothing else
abbrev pub after_reload : {W C : Type 0} → Device W C → Reloading W → MachineState W C
    → MachineState W C
after_reload device (Refused fault) s = record s { refused = s.refused + 1 }
after_reload device (Accepted version world) s = record s {
  world = world;
  accepted = s.accepted + 1;
  connections = map (connection_after_reload device s.moment s.world world) s.connections;
}

unfoldable pub state_after_event : {W C : Type 0} → Device W C → MachineState W C → Event
    → MachineState W C
state_after_event device s (event.Opened c) =
    record s { connections = s.connections ++ fresh_connection device.new_client c ∷ [] }
state_after_event device s (event.Piece c bytes) =
    after_exchange (connection_of c s.connections) (after_piece device bytes) s
state_after_event device s (event.Closed c) =
    after_exchange (connection_of c s.connections) with_gone s
state_after_event device s (event.Tick t) =
    after_tick device (moment_of_tick t s) (device.world_after_tick s.world) s
state_after_event device s (event.Reload bytes) = after_reload device (device.reload bytes s.world) s
state_after_event device s (event.Writable c) = s
