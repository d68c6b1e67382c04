-- The requests of a log, one by one: those that pass the checks, and the parts of a sum in their order; each with what it
-- finds, the client and the bytes as those before it left them. Beckhoff Information System, "ADS Commands", "ADS Sum Command".
use Rattle.std.specs.Prelude.{◌≡◌, ℕ, List, [], ◌∷◌, ◌++◌, length, flat_map, if◌then◌else◌, Option, Some, None, is_none}
use Rattle.std.specs.List.{list_any}
use Rattle.ads_outside.specs.declared.event.Event.TheVariants as event
use Rattle.ads_outside.specs.declared.moves.Move.{Move}
use Rattle.ads_outside.specs.declared.moves.Move.TheVariants as move
use Rattle.spec_plant.specs.World.{ByteName, Block}
use Rattle.spec_formats.specs.Header.{AmsHeader, header_of, payload_of}
use Rattle.spec_formats.specs.Request.{Request, ReadWrite}
use Rattle.spec_machine.specs.Connection.{Connection, connection_of, is_deaf}
use Rattle.spec_machine.specs.MachineState.{MachineState, Exchange, exchange_of}
use Rattle.spec_machine.specs.Piece.{packets_left, with_received, with_piece, after_packet}
use Rattle.spec_machine.specs.Profile.{Profile}
use Rattle.spec_machine.specs.World.{World, Setup, setup_of}
use Rattle.spec_machine.specs.Client.{Client}
use Rattle.spec_machine.specs.Acts.{Act, Outcome, writes_of_act}
use Rattle.spec_machine.specs.Writes.{Asker}
use Rattle.spec_machine.specs.Requests.{act_of}
use Rattle.spec_machine.specs.Sums.{SumRequest, sum_refusal, given_in_turn}
use Rattle.spec_machine.specs.SumLaws.{Party, single_outcome, party_after}
use Rattle.spec_machine.specs.SumPackets.{known_sum}
use Rattle.spec_machine.specs.Packets.{Check, checks_of, Question, question_of}
use Rattle.spec_server.specs.Server.{server_device}

-- one request: of what plant, by whom, and the client and the bytes that it finds
pub record Asked : Type 0 where
  pub setup : Setup
  pub asker : Asker
  pub before : Party
  pub request : Request

-- what it does, how it ends, and the client and the bytes that it leaves
abbrev pub act_of_asked : Asked → Act
act_of_asked a = act_of a.setup a.before.client a.asker a.request

abbrev pub outcome_of_asked : Asked → Outcome
outcome_of_asked a = single_outcome a.setup a.asker a.before a.request

abbrev pub after_asked : Asked → Party
after_asked a = party_after a.setup a.asker a.before a.request

-- requests one after another, the first of which finds this
unfoldable pub asked_in_turn : Setup → Asker → Party → List Request → List Asked
asked_in_turn d k p rs = given_in_turn (λ p r. record { setup = d; asker = k; before = p; request = r }) (party_after d k) p rs

-- a request by itself, or the parts of a sum, whose offset is their number; none of one that is refused whole
abbrev pub requests_in : Option (ℕ → List ℕ → SumRequest) → ℕ → ℕ → ℕ → List ℕ → List Request
requests_in None group n read_len bytes = ReadWrite group n read_len bytes ∷ []
requests_in (Some sum) group n read_len bytes =
    let s = sum n bytes in if is_none (sum_refusal n s.data_len (length bytes) s.reply_len read_len) then s.parts else []

unfoldable pub requests_of : Profile → Request → List Request
requests_of profile (ReadWrite group offset read_len bytes) = requests_in (known_sum profile group) group offset read_len bytes
requests_of profile r = r ∷ []

abbrev pub asked_of_question : Setup → Party → Option Question → List Asked
asked_of_question d p None = []
asked_of_question d p (Some q) = asked_in_turn d q.asker p (requests_of d.profile q.request)

-- those of a packet with this header that none of the nine checks stops
abbrev pub asked_of_header : Setup → Party → List ℕ → Option AmsHeader → List Asked
asked_of_header d p payload None = []
asked_of_header d p payload (Some h) =
    if list_any (λ (c : Check). c.stops) (checks_of d h payload) then []
    else asked_of_question d p (question_of d h payload)

-- what a connection and the world are to a request
abbrev pub party_of : Exchange World Client → Party
party_of x = record { client = x.connection.client; memory = x.world.memory }

-- the requests of a packet; none where the connection is closing by then
abbrev pub asked_of_packet : List ℕ → Exchange World Client → List Asked
asked_of_packet packet x =
    if x.connection.closing then []
    else asked_of_header (setup_of x.world) (party_of x) (payload_of packet) (header_of packet)

unfoldable pub asked_of_packets : List (List ℕ) → Exchange World Client → List Asked
asked_of_packets [] x = []
asked_of_packets (packet ∷ packets) x =
    asked_of_packet packet x
    ++ asked_of_packets packets (after_packet server_device packet x)

-- the requests of the frames that a piece completes
abbrev pub asked_of_piece : List ℕ → Exchange World Client → List Asked
asked_of_piece piece x =
    if is_deaf x.connection then []
    else asked_of_packets (packets_left (with_received piece x.connection)) (with_piece piece x)

abbrev pub asked_at : MachineState World Client → List ℕ → Option (Connection Client)
    → List Asked
asked_at s piece None = []
asked_at s piece (Some k) = asked_of_piece piece (exchange_of s k)

-- the requests of a move
unfoldable pub asked_of_move : MachineState World Client → Move → List Asked
asked_of_move s (move.Event (event.Piece n piece)) =
    asked_at s piece (connection_of n s.connections)
asked_of_move s m = []

-- the names that requests write
abbrev pub names_written : List Asked → List ByteName
names_written asked = flat_map (λ (a : Asked). writes_of_act (act_of_asked a)) asked

-- each finds the bytes that the one before it left; the first finds these, and the last leaves those
abbrev pub Leads : List Block → List Asked → List Block → Type 0
Leads first [] last = first ≡ last
Leads first (a ∷ as_) last = (a.before.memory ≡ first) × Leads (after_asked a).memory as_ last
