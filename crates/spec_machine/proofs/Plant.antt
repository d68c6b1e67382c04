-- The plant of the worked examples, and how they are written.
use Rattle.std.specs.Prelude.{ℕ, ◌+◌, List, [], ◌∷◌, ◌++◌, length, codes, replicate, bytes_eq, if◌then◌else◌}
use Rattle.std.specs.Prelude.{Ok, Err}
use Rattle.std.specs.Int.{w16, w32, w64, to_le_bytes}
use Rattle.signals.specs.Wave.{Wave}
use Rattle.spec_plant.specs.Plain.{DINT}
use Rattle.spec_plant.specs.Listed.{Plain, One}
use Rattle.spec_plant.specs.Description.{Process, Description}
use Rattle.spec_frames.specs.Frame.{frame_bytes}
use Rattle.ads_outside.specs.declared.event.Event.TheVariants as event
use Rattle.ads_outside.specs.declared.moves.Move.{Move}
use Rattle.ads_outside.specs.declared.moves.Move.TheVariants as move
use Rattle.spec_machine.specs.Device.{Device, BreaksRule}
use Rattle.spec_machine.specs.MachineState.{MachineState, start_of, output_of}
use Rattle.spec_machine.specs.Moves.{EventStep, state_after}
use Rattle.spec_machine.specs.World.{World, world_of}
use Rattle.spec_machine.specs.Client.{Client}
use Rattle.spec_machine.specs.AdsDevice.{DescriptionReading, ads_device, server_step}
pub use Rattle.spec_plant.proofs.Plant.{NET, ENGINEER, VIEWER, plain_symbol, count_symbol, description_with, plant, plant2, plant3}
use Rattle.spec_frames.proofs.Hex.{hex}

-- two symbols side by side
abbrev pub pair : Description
pair = description_with (
    count_symbol 0 ∷ plain_symbol (codes "Main.next") (One (Plain DINT)) Process 4 (hex (codes "2b000000")) ∷ [])

-- the examples name a description instead of writing its text; any other text breaks rule 2
abbrev pub reading : DescriptionReading
reading bytes signals = if bytes_eq bytes (codes "plant") then Ok plant else if bytes_eq bytes (codes "plant2") then Ok plant2 else if bytes_eq bytes
    (codes "plant3") then Ok plant3 else if bytes_eq bytes (codes "pair") then Ok pair else Err (BreaksRule 2 0)

abbrev pub device : Device World Client
device = ads_device reading

-- an event of the server's machine
abbrev pub step : EventStep World Client
step = server_step reading

abbrev pub waves : List Wave
waves =
    record { values = 0 ∷ 1 ∷ 2 ∷ []; place = 0 } ∷ record { values = 0 ∷ 1 ∷ []; place = 0 }
    ∷ record { values = 3 ∷ 1 ∷ 4 ∷ 1 ∷ 5 ∷ 9 ∷ 2 ∷ 6 ∷ []; place = 0 } ∷ []

abbrev pub start : MachineState World Client
start = start_of (world_of plant waves)

-- an AMS packet between the first machine's port 32905 and the server's port 851
abbrev pub packet_from : List ℕ → ℕ → ℕ → List ℕ → List ℕ
packet_from net command id payload =
    NET ++ to_le_bytes w16 851 ++ net ++ to_le_bytes w16 32905 ++ to_le_bytes w16 command ++ to_le_bytes w16 4
    ++ to_le_bytes w32 (length payload) ++ to_le_bytes w32 0 ++ to_le_bytes w32 id ++ payload

abbrev pub answer_to : List ℕ → ℕ → ℕ → ℕ → List ℕ → List ℕ
answer_to net command id error payload =
    net ++ to_le_bytes w16 32905 ++ NET ++ to_le_bytes w16 851 ++ to_le_bytes w16 command ++ to_le_bytes w16 5
    ++ to_le_bytes w32 (length payload) ++ to_le_bytes w32 error ++ to_le_bytes w32 id ++ payload

-- a request's frame, and its reply's, with the data in hexadecimal
abbrev pub q : ℕ → ℕ → List ℕ → List ℕ
q command id payload = frame_bytes (packet_from ENGINEER command id (hex payload))

abbrev pub a : ℕ → ℕ → List ℕ → List ℕ
a command id payload = frame_bytes (answer_to ENGINEER command id 0 (hex payload))

-- the same of the machine that may only read
abbrev pub q_viewer : ℕ → ℕ → List ℕ → List ℕ
q_viewer command id payload = frame_bytes (packet_from VIEWER command id (hex payload))

abbrev pub a_viewer : ℕ → ℕ → List ℕ → List ℕ
a_viewer command id payload = frame_bytes (answer_to VIEWER command id 0 (hex payload))

abbrev pub tick : ℕ → Move
tick t = move.Event (event.Tick t)

abbrev pub reload : List ℕ → Move
reload bytes = move.Event (event.Reload bytes)

abbrev pub opened : ℕ → Move
opened c = move.Event (event.Opened c)

abbrev pub piece : ℕ → List ℕ → Move
piece c bytes = move.Event (event.Piece c bytes)

-- all that connection 1 is given, where it is opened first
abbrev pub given : List Move → List ℕ
given log = output_of 1 (state_after step start (opened 1 ∷ log))

-- a request of a group by a name, and its reply
abbrev pub named : ℕ → ℕ → ℕ → List ℕ → List ℕ
named id group len name = frame_bytes (packet_from ENGINEER 9 id (
    to_le_bytes w32 group ++ to_le_bytes w32 0 ++ to_le_bytes w32 len ++ to_le_bytes w32 (length name) ++ name))

-- an addition of a notification, where the 16 reserved bytes are zeros
abbrev pub added : ℕ → List ℕ → List ℕ
added id fields = frame_bytes (packet_from ENGINEER 6 id (hex fields ++ replicate 16 0))

-- a notification frame of this moment, with so many samples, to a client's port
abbrev pub stamp_to : ℕ → ℕ → ℕ → List ℕ → List ℕ
stamp_to port moment count samples =
    let stamp = to_le_bytes w32 1 ++ to_le_bytes w64 moment ++ to_le_bytes w32 count ++ hex samples in
    frame_bytes (ENGINEER ++ to_le_bytes w16 port ++ NET ++ to_le_bytes w16 851 ++ to_le_bytes w16 8 ++ to_le_bytes w16 4
    ++ to_le_bytes w32 (4 + length stamp) ++ to_le_bytes w32 0 ++ to_le_bytes w32 0 ++ to_le_bytes w32 (length stamp) ++ stamp)

abbrev pub stamp : ℕ → ℕ → List ℕ → List ℕ
stamp moment count samples = stamp_to 32905 moment count samples
