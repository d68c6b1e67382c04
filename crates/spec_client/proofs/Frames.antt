-- How the worked examples write frames between the engineer's machine, port 32905, and the plant's port 851.
use Rattle.std.specs.Prelude.{ℕ, List, ◌++◌, length}
use Rattle.std.specs.Int.{w16, w32, w64, to_le_bytes}
use Rattle.spec_frames.specs.Frame.{frame_bytes}
use Rattle.spec_frames.proofs.Hex.{hex}
use Rattle.spec_formats.specs.Header.{AmsAddress}
use Rattle.spec_plant.proofs.Plant.{NET, ENGINEER}

abbrev pub me_at : List ℕ → AmsAddress
me_at net = record { net = net; port = 32905 }

abbrev pub me : AmsAddress
me = me_at ENGINEER

abbrev pub peer_at : ℕ → AmsAddress
peer_at port = record { net = NET; port = port }

abbrev pub peer : AmsAddress
peer = peer_at 851

-- target 8, source 8, command 2, flags 2, data length 4, error code 4, invoke id 4, and the payload
abbrev packet : List ℕ → List ℕ → ℕ → ℕ → ℕ → List ℕ → List ℕ
packet target source command flags id payload =
    target ++ source ++ to_le_bytes w16 command ++ to_le_bytes w16 flags
    ++ to_le_bytes w32 (length payload) ++ to_le_bytes w32 0 ++ to_le_bytes w32 id ++ payload

abbrev engineer : List ℕ
engineer = ENGINEER ++ to_le_bytes w16 32905

abbrev plant : List ℕ
plant = NET ++ to_le_bytes w16 851

-- the frame of a request, with its payload in hexadecimal
abbrev pub request : ℕ → ℕ → List ℕ → List ℕ
request command id payload = frame_bytes (packet plant engineer command 4 id (hex payload))

-- the frame of its reply
abbrev pub reply : ℕ → ℕ → List ℕ → List ℕ
reply command id payload = frame_bytes (packet engineer plant command 5 id (hex payload))

-- the frame of a notification with one stamp of this moment, which has so many samples
abbrev pub stamp : ℕ → ℕ → List ℕ → List ℕ
stamp moment count samples =
    let stamp = to_le_bytes w32 1 ++ to_le_bytes w64 moment ++ to_le_bytes w32 count ++ hex samples in
    frame_bytes (packet engineer plant 8 4 0 (to_le_bytes w32 (length stamp) ++ stamp))
