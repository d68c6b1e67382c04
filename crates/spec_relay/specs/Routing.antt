-- What becomes of one AMS packet that the relay takes, and of the state. Beckhoff Information System, "AMS Header"; the rules are
-- this project's own.
use Rattle.std.specs.Prelude.{ℕ, ◌+◌, ◌%◌, List, [], Bool, false, ◌&&◌, ◌==◌, if◌then◌else◌, Option, Some, None}
use Rattle.spec_frames.specs.Frame.{frame_bytes}
use Rattle.spec_formats.specs.Codes.{target_machine_not_found}
use Rattle.spec_formats.specs.Header.{AmsHeader, header_of, payload_of}
use Rattle.spec_formats.specs.Commands.{DEVICE_NOTIFICATION}
use Rattle.spec_machine.specs.Device.{Produced, Reply}
use Rattle.spec_machine.specs.Replies.{response_packet}
use Rattle.spec_machine.specs.Connection.{connection_of, with_closing, fits, produce}
use Rattle.spec_machine.specs.MachineState.{Exchange, after_exchange}
use Rattle.spec_machine.specs.Piece.{with_client, with_one_taken}
use Rattle.spec_relay.specs.RelayState.{Request, RelayWorld, Owned, RelayConnection, RelayState, is_heard, owner_of}
use Rattle.spec_relay.specs.Checks.{is_closed_by}
use Rattle.spec_relay.specs.Requests.{with_requests_heard, is_answered_by, request_answered, without_first, with_request}

-- what becomes of a frame
pub data Fate : Type 0 where
  -- the connection of this number is given it, as a request or notification, or as a response
  Asked : ℕ → Fate
  Answered : ℕ → Fate
  -- nobody is given it, and its sender is told so, or not
  NotFound : Bool → Fate
  -- it is dropped: a response to nothing, or to a connection without room; or its sender is closed
  Dropped : Fate

-- what a frame leads to: its fate, and the state after it
pub record RelayOutcome : Type 0 where
  pub fate : Fate
  pub after : RelayState

-- a change of one connection
abbrev pub at_connection : ℕ → (RelayConnection → RelayConnection) → RelayState → RelayState
at_connection c change s = after_exchange (connection_of c s.connections)
    (λ (x : Exchange RelayWorld Owned). record x { connection = change x.connection }) s

-- a frame, as a connection is given it
abbrev pub framed : List ℕ → Produced
framed packet = Reply (frame_bytes packet)

-- a connection that is there and not closing has room for a frame where it fits
abbrev pub has_room : Produced → Option RelayConnection → Bool
has_room frame None = false
has_room frame (Some k) = is_heard k && fits frame k

-- a connection that is gone is given nothing
abbrev pub delivered : Produced → RelayConnection → RelayConnection
delivered frame k = if k.gone then k else produce frame k

-- a frame is given to a connection, or closes it where it does not fit
abbrev pub given_to : ℕ → List ℕ → RelayState → RelayState
given_to c packet s = at_connection c (delivered (framed packet)) s

abbrev pub with_passed : RelayState → RelayState
with_passed s = record s { world = record s.world { passed = s.world.passed + 1 } }

abbrev pub with_unknown : RelayState → RelayState
with_unknown s = record s { world = record s.world { unknown = s.world.unknown + 1 } }

abbrev pub with_requests : List Request → RelayState → RelayState
with_requests requests s = record s { world = record s.world { requests = requests } }

-- the packet that tells a sender that the target machine was not found
abbrev pub not_found_packet : AmsHeader → List ℕ
not_found_packet h = response_packet h target_machine_not_found []

-- what is remembered of a frame of c that goes to d; nothing of a notification
abbrev pub request_from : ℕ → ℕ → AmsHeader → Request
request_from c d h = record {
  asker = c;
  asked = d;
  source = h.source;
  target = h.target;
  command = h.command;
  id = h.id;
}

abbrev pub with_request_of : ℕ → ℕ → AmsHeader → RelayState → RelayState
with_request_of c d h s =
    if h.command == DEVICE_NOTIFICATION then s
    else with_requests (with_request (request_from c d h) s.world.requests) s

-- the target of a frame of c is not found: c is told, where it has room; a notification is not answered
abbrev pub outcome_of_unknown : ℕ → AmsHeader → RelayState → RelayOutcome
outcome_of_unknown c h s =
    if h.command == DEVICE_NOTIFICATION then record { fate = NotFound false; after = with_unknown s }
    else record {
      fate = NotFound (has_room (framed (not_found_packet h)) (connection_of c s.connections));
      after = given_to c (not_found_packet h) (with_unknown s);
    }

-- a response goes to the asker of the request that it answers, which is spent; one to nothing is dropped
unfoldable pub outcome_of_response : ℕ → AmsHeader → List ℕ → RelayState → Option Request → RelayOutcome
outcome_of_response c h packet s None = record { fate = Dropped; after = s }
outcome_of_response c h packet s (Some r) =
    let spent = with_requests (without_first (is_answered_by c h) s.world.requests) s in
    if has_room (framed packet) (connection_of r.asker s.connections)
    then record { fate = Answered r.asker; after = with_passed (given_to r.asker packet spent) }
    else record { fate = Dropped; after = given_to r.asker packet spent }

-- any other frame goes to the owner of its target, where it has room
unfoldable pub outcome_of_request : ℕ → AmsHeader → List ℕ → RelayState → Option RelayConnection → RelayOutcome
outcome_of_request c h packet s None = outcome_of_unknown c h s
outcome_of_request c h packet s (Some d) =
    let given = given_to d.number packet s in
    if has_room (framed packet) (connection_of d.number s.connections)
    then record { fate = Asked d.number; after = with_passed (with_request_of c d.number h given) }
    else outcome_of_unknown c h given

-- a frame whose sender owns its source
abbrev pub outcome_of_owned : ℕ → AmsHeader → List ℕ → RelayState → RelayOutcome
outcome_of_owned c h packet s =
    if h.flags % 2 == 1 then outcome_of_response c h packet s (request_answered c h s.world.requests)
    else outcome_of_request c h packet s (owner_of h.target.net s.connections)

-- one more frame of c is taken, and requests of connections that are no longer heard are dropped
abbrev pub with_frame_taken : ℕ → RelayState → RelayState
with_frame_taken c s = with_requests_heard (at_connection c with_one_taken s)

abbrev pub with_owner : ℕ → List ℕ → RelayState → RelayState
with_owner c net s = at_connection c (with_client (Some net)) s

-- a frame without a header is dropped
abbrev pub outcome_by_header : ℕ → List ℕ → RelayConnection → RelayState → Option AmsHeader → RelayOutcome
outcome_by_header c packet k s None = record { fate = Dropped; after = s }
outcome_by_header c packet k s (Some h) =
    if is_closed_by (payload_of packet) h k s then record { fate = Dropped; after = at_connection c with_closing s }
    else outcome_of_owned c h packet (with_owner c h.source.net s)

-- what a frame of c, the connection k, leads to
abbrev pub outcome_of_frame : ℕ → List ℕ → RelayConnection → RelayState → RelayOutcome
outcome_of_frame c packet k s = outcome_by_header c packet k (with_frame_taken c s) (header_of packet)

-- a frame is taken, unless its connection is closing by then
abbrev pub after_frame_of : ℕ → List ℕ → RelayState → Option RelayConnection → RelayState
after_frame_of c packet s None = s
after_frame_of c packet s (Some k) = if k.closing then s else (outcome_of_frame c packet k s).after

unfoldable pub after_frame : ℕ → List ℕ → RelayState → RelayState
after_frame c packet s = after_frame_of c packet s (connection_of c s.connections)
