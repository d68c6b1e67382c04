-- The relay moves as the server does, but that a frame may be given to another connection; ticks and reloads change nothing.
use Rattle.std.specs.Prelude.{ℕ, List, [], ◌∷◌, ◌++◌, if◌then◌else◌, Option, Some, None}
use Rattle.ads_outside.specs.declared.event.Event.{Event}
use Rattle.ads_outside.specs.declared.event.Event.TheVariants as event
use Rattle.spec_machine.specs.Connection.{fresh_connection, connection_of, is_deaf}
use Rattle.spec_machine.specs.MachineState.{after_exchange}
use Rattle.spec_machine.specs.Piece.{with_received, packets_left, after_rest}
use Rattle.spec_machine.specs.Moves.{with_gone}
use Rattle.spec_relay.specs.RelayState.{RelayConnection, RelayState}
use Rattle.spec_relay.specs.Routing.{at_connection, after_frame}

-- frames of one connection, one after another
unfoldable pub after_frames : ℕ → List (List ℕ) → RelayState → RelayState
after_frames c [] s = s
after_frames c (packet ∷ packets) s = after_frames c packets (after_frame c packet s)

-- a piece of a connection: its frames are taken, and a broken rest closes it
abbrev pub after_piece_of : ℕ → List ℕ → RelayState → Option RelayConnection → RelayState
after_piece_of c piece s None = s
after_piece_of c piece s (Some k) =
    if is_deaf k then s
    else at_connection c after_rest
    (after_frames c (packets_left (with_received piece k)) (at_connection c (with_received piece) s))

unfoldable pub relay_after_event : RelayState → Event → RelayState
relay_after_event s (event.Opened c) = record s { connections = s.connections ++ fresh_connection None c ∷ [] }
relay_after_event s (event.Piece c bytes) = after_piece_of c bytes s (connection_of c s.connections)
relay_after_event s (event.Closed c) = after_exchange (connection_of c s.connections) with_gone s
relay_after_event s (event.Tick t) = s
relay_after_event s (event.Reload bytes) = s
relay_after_event s (event.Writable c) = s
