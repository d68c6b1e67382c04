-- The script of a load of n: four clients watch ten values each, and then send n requests between them, a read or a
-- write each, as a row of numbers says that begins with n; the clock ticks behind each tenth. This project's own choice.
use Rattle.std.specs.Prelude.{ℕ, zero, suc, ◌+◌, ◌-◌, ◌*◌, ◌/◌, ◌%◌, ◌==◌, ◌++◌, List, [], ◌∷◌, length, map, flat_map, if◌then◌else◌}
use Rattle.std.specs.List.{range_with_len}
use Rattle.std.specs.Int.{w32, to_le_bytes}
use Rattle.spec_frames.specs.Frame.{frame_bytes}
use Rattle.spec_formats.specs.Header.{AmsAddress, header_bytes, request_flags}
use Rattle.spec_formats.specs.Request.{Request, Read, Write, AddDeviceNotification, command_of, request_bytes}
use Rattle.load_maker.specs.MadeLines.{MadeLine, Opens, Sends, Ticks}

-- client c, from 1 to 4
abbrev pub client_address : ℕ → AmsAddress
client_address c = record { net = 10 ∷ 0 ∷ 0 ∷ c ∷ 1 ∷ 1 ∷ []; port = 32768 + c }

abbrev pub plant_address : AmsAddress
plant_address = record { net = 5 ∷ 1 ∷ 2 ∷ 3 ∷ 1 ∷ 1 ∷ []; port = 851 }

-- the AMS packet of a request of client c, with this invoke id
unfoldable pub request_packet : ℕ → ℕ → Request → List ℕ
request_packet c id r = header_bytes (record {
  target = plant_address;
  source = client_address c;
  command = command_of r;
  flags = request_flags;
  len = length (request_bytes r);
  error = 0;
  id = id;
}) ++ request_bytes r

-- each frame is one line
abbrev pub request_line : ℕ → ℕ → Request → MadeLine
request_line c id r = Sends c (frame_bytes (request_packet c id r))

-- the bytes of the data area
abbrev pub DATA : ℕ
DATA = 0x4040

-- client c watches its j-th symbol, from 0: a sample at each tick at which it has changed
abbrev pub watch_line : ℕ → ℕ → MadeLine
watch_line c j = request_line c (j + 1) (AddDeviceNotification DATA (4 * (25 * (c - 1) + j)) 4 4 0 0)

unfoldable pub watch_lines : ℕ → List MadeLine
watch_lines c = map (watch_line c) (range_with_len 0 10)

-- the i-th number of the row
unfoldable pub load_number : ℕ → ℕ → ℕ
load_number n zero = n
load_number n (suc i) = (load_number n i * 1103515245 + 12345) % 2147483648

-- what the i-th request asks of the symbol that its number x names: a read, or a write of i
abbrev pub turn_request : ℕ → ℕ → Request
turn_request x i =
    if (x / 400) % 2 == 0 then Read DATA (4 * ((x / 4) % 100)) 4 else Write DATA (4 * ((x / 4) % 100)) (to_le_bytes w32 i)

abbrev pub tick_lines : ℕ → List MadeLine
tick_lines i = if i % 10 == 0 then Ticks (100000 * i) ∷ [] else []

-- the i-th request of client x mod 4 + 1, and the tick behind it
abbrev pub turn_of : ℕ → ℕ → List MadeLine
turn_of x i = request_line (x % 4 + 1) (10 + i) (turn_request x i) ∷ tick_lines i

abbrev pub turn_lines : ℕ → ℕ → List MadeLine
turn_lines n i = turn_of (load_number n i) i

-- the clients by their connections
abbrev pub clients : List ℕ
clients = 1 ∷ 2 ∷ 3 ∷ 4 ∷ []

-- the turns of n that come first
abbrev pub first_turns : ℕ → ℕ → List MadeLine
first_turns n count = flat_map (turn_lines n) (range_with_len 1 count)

-- all lines
abbrev pub load_lines : ℕ → List MadeLine
load_lines n = map Opens clients ++ flat_map watch_lines clients ++ first_turns n n ++ Ticks (100000 * (n + 1)) ∷ []
