-- What concerns one connection: its part of a log, what it reads, and what others write.
use Rattle.std.specs.Prelude.{ℕ, List, [], ◌∷◌, ◌++◌, filter, Bool, true, ◌==◌, if◌then◌else◌}
use Rattle.std.specs.Prelude.{Option, Some, None}
use Rattle.ads_outside.specs.declared.event.Event.{Event}
use Rattle.ads_outside.specs.declared.event.Event.TheVariants as event
use Rattle.ads_outside.specs.declared.moves.Move.{Move}
use Rattle.ads_outside.specs.declared.moves.Move.TheVariants as move
use Rattle.spec_plant.specs.World.{ByteName}
use Rattle.spec_machine.specs.Connection.{Connection, connection_of, is_deaf}
use Rattle.spec_machine.specs.MachineState.{MachineState, Exchange, exchange_of}
use Rattle.spec_machine.specs.Piece.{packets_left, with_received, with_piece, after_packet}
use Rattle.spec_machine.specs.Moves.{state_after_move}
use Rattle.spec_machine.specs.World.{World, setup_of}
use Rattle.spec_machine.specs.Client.{Client}
use Rattle.spec_machine.specs.Acts.{Act, reads_of_acts, writes_of_acts}
use Rattle.spec_machine.specs.Decisions.{acts_in}
use Rattle.spec_machine.specs.Packets.{decide}
use Rattle.spec_machine.specs.AdsDevice.{DescriptionReading, ads_device, server_step}

-- the moves of a connection, ticks and reloads
abbrev pub is_event_of : ℕ → Event → Bool
is_event_of c (event.Opened n) = n == c
is_event_of c (event.Piece n bytes) = n == c
is_event_of c (event.Closed n) = n == c
is_event_of c (event.Tick t) = true
is_event_of c (event.Reload bytes) = true
is_event_of c (event.Writable n) = n == c

abbrev pub is_move_of : ℕ → Move → Bool
is_move_of c (move.Event e) = is_event_of c e
is_move_of c (move.Took n offered bytes) = n == c
is_move_of c (move.Lost n) = n == c
is_move_of c (move.Shut n) = n == c

unfoldable pub projection_of : ℕ → List Move → List Move
projection_of c log = filter (is_move_of c) log

-- the acts of a packet; none where the connection is closing by then
abbrev pub acts_of_packet : List ℕ → Exchange World Client → List Act
acts_of_packet packet x =
    if x.connection.closing then [] else acts_in (decide (setup_of x.world) x.connection.client packet)

unfoldable pub acts_of_packets : DescriptionReading → List (List ℕ)
    → Exchange World Client → List Act
acts_of_packets reading [] x = []
acts_of_packets reading (packet ∷ packets) x =
    acts_of_packet packet x
    ++ acts_of_packets reading packets (after_packet (ads_device reading) packet x)

-- the acts of the frames that a piece completes
abbrev pub acts_of_piece : DescriptionReading → List ℕ → Exchange World Client
    → List Act
acts_of_piece reading piece x =
    if is_deaf x.connection then []
    else acts_of_packets reading (packets_left (with_received piece x.connection)) (with_piece piece x)

abbrev pub acts_at : DescriptionReading → MachineState World Client → List ℕ
    → Option (Connection Client) → List Act
acts_at reading s piece None = []
acts_at reading s piece (Some k) = acts_of_piece reading piece (exchange_of s k)

-- the acts of a move; parts of sums count one by one
unfoldable pub acts_of_move : DescriptionReading → MachineState World Client → Move
    → List Act
acts_of_move reading s (move.Event (event.Piece n piece)) =
    acts_at reading s piece (connection_of n s.connections)
acts_of_move reading s m = []

unfoldable pub acts_of_log : DescriptionReading → MachineState World Client
    → List Move → List Act
acts_of_log reading s [] = []
acts_of_log reading s (m ∷ ms) =
    acts_of_move reading s m
    ++ acts_of_log reading (state_after_move (server_step reading) s m) ms

-- the acts of all connections but one
unfoldable pub acts_by_others : DescriptionReading → ℕ → MachineState World Client
    → List Move → List Act
acts_by_others reading c s [] = []
acts_by_others reading c s (m ∷ ms) =
    (if is_move_of c m then [] else acts_of_move reading s m)
    ++ acts_by_others reading c (state_after_move (server_step reading) s m) ms

-- the names that a connection reads, were it alone
abbrev pub reads_of : DescriptionReading → ℕ → MachineState World Client → List Move
    → List ByteName
reads_of reading c s log = reads_of_acts (acts_of_log reading s (projection_of c log))

-- the names that all others write
abbrev pub writes_by_others : DescriptionReading → ℕ → MachineState World Client
    → List Move → List ByteName
writes_by_others reading c s log = writes_of_acts (acts_by_others reading c s log)
