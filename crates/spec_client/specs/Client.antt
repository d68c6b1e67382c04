-- A client of one device: what it issues, and what time and bytes do. Beckhoff Information System, "AMS Header".
use Rattle.std.specs.Prelude.{ℕ, List, [], ◌∷◌, ◌++◌, length, map, filter, drop, Bool, nat_le, Option, Some, None, if◌then◌else◌}
use Rattle.ads_base.specs.declared.peer.Peer.{Peer}
use Rattle.spec_frames.specs.Frame.{frame_bytes}
use Rattle.spec_frames.specs.Division.{frames_of}
use Rattle.spec_formats.specs.Codes.{no_error}
use Rattle.spec_formats.specs.Header.{AmsAddress, header_bytes, request_flags}
use Rattle.spec_formats.specs.Request.{Request, command_of, request_bytes}
use Rattle.spec_client.specs.Heard.{StampedSample}
use Rattle.spec_client.specs.PassedOver.{says_something}
use Rattle.spec_client.specs.Unanswered.{Unanswered, MAX_OUTSTANDING, outstanding_count, id_after, free_id, after_tick_of}

pub record Client : Type 0 where
  pub me : AmsAddress
  pub peer : AmsAddress
  -- the invoke id that was given last, 0 before the first
  pub last_id : ℕ
  -- in the order of issue
  pub unanswered : List Unanswered
  -- all bytes that came
  pub received : List ℕ
  -- how many of their frames that say something were taken
  pub taken : ℕ
  -- of the notification that was taken last, those not told yet
  pub samples : List StampedSample
  -- what the peer did wrong, once it was told
  pub broken : Option Peer

-- a client to which nothing happened
abbrev pub new_client : AmsAddress → AmsAddress → Client
new_client me peer = record {
  me = me;
  peer = peer;
  last_id = 0;
  unanswered = [];
  received = [];
  taken = 0;
  samples = [];
  broken = None;
}

-- the id of the next request: the next number after the last one given that no outstanding request has
abbrev pub next_id : Client → ℕ
next_id c = free_id (length c.unanswered) c.unanswered (id_after c.last_id)

-- the AMS packet of a request between these addresses
abbrev pub request_packet : AmsAddress → AmsAddress → ℕ → Request → List ℕ
request_packet me peer id r = let payload = request_bytes r in header_bytes (record {
  target = peer;
  source = me;
  command = command_of r;
  flags = request_flags;
  len = length payload;
  error = no_error;
  id = id;
}) ++ payload

-- a request from the client to its peer
abbrev pub request_frame : Client → ℕ → Request → List ℕ
request_frame c id r = frame_bytes (request_packet c.me c.peer id r)

-- no request can be issued
abbrev pub is_full : Client → Bool
is_full c = nat_le MAX_OUTSTANDING (outstanding_count c.unanswered)

-- an issued request: its id and its frame
pub record Issued : Type 0 where
  pub id : ℕ
  pub frame : List ℕ

unfoldable pub issued_by : Client → Request → Option Issued
issued_by c r = if is_full c then None else Some (record { id = next_id c; frame = request_frame c (next_id c) r })

abbrev pub with_request : Client → ℕ → Request → ℕ → Client
with_request c id r now = record c {
  last_id = id;
  unanswered = c.unanswered ++ record { id = id; command = command_of r; sent = now; timed_out = None } ∷ [];
}

-- a request that can't be issued changes nothing
unfoldable pub client_after_issue : Client → Request → ℕ → Client
client_after_issue c r now = if is_full c then c else with_request c (next_id c) r now

abbrev pub client_after_feed : Client → List ℕ → Client
client_after_feed c piece = record c { received = c.received ++ piece }

-- the overdue requests time out
unfoldable pub client_after_tick : Client → ℕ → Client
client_after_tick c now = record c { unanswered = map (after_tick_of now) c.unanswered }

-- the AMS packets that say something and are not taken yet
abbrev pub packets_left : Client → List (List ℕ)
packets_left c = drop c.taken (filter says_something (frames_of c.received))
