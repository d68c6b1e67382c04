-- Worked scripts of the relay.
use Rattle.std.specs.Prelude.{◌≡◌, refl, ℕ, List, [], ◌∷◌, codes, filter, map, Bool, true, false, not}
use Rattle.spec_frames.specs.Division.{ams_length_of, is_header, front_of, packet_of, behind_frame, frames_from, frames_of, left_behind, rest_of}
use Rattle.spec_plant.specs.Description.{Control, Read, Description}
use Rattle.ads_outside.specs.declared.event.Event.{Event}
use Rattle.ads_outside.specs.declared.event.Event.TheVariants as event
use Rattle.ads_outside.specs.declared.moves.Move.{Move}
use Rattle.ads_outside.specs.declared.moves.Move.TheVariants as move
use Rattle.spec_formats.specs.Header.{header_of}
use Rattle.spec_machine.specs.Replies.{response_packet}
use Rattle.spec_machine.specs.Connection.{produce, connection_of, put_back}
use Rattle.spec_machine.specs.Offers.{left_after}
use Rattle.spec_machine.specs.Peers.{offers_to, peers_after}
use Rattle.spec_machine.specs.ScriptLine.{Happens}
use Rattle.spec_machine.specs.Moves.{state_after_move, state_after}
use Rattle.spec_machine.specs.Play.{moves_of_each, turns_of}
use Rattle.spec_relay.specs.RelayState.{relay_start}
use Rattle.spec_relay.specs.Requests.{without_first}
use Rattle.spec_relay.specs.Routing.{outcome_of_response, outcome_of_request, after_frame}
use Rattle.spec_relay.specs.RelayMoves.{after_frames, relay_after_event}
use Rattle.spec_relay.specs.RelaySummary.{RelaySummary, relay_summary_of, relay_play}
use Rattle.spec_frames.proofs.Hex.{hex}

-- 192.168.0.9.1.1 and 192.168.0.10.1.1
abbrev description : Description
description = record {
  net = 5 ∷ 1 ∷ 2 ∷ 3 ∷ 1 ∷ 1 ∷ [];
  routes = record { net = 192 ∷ 168 ∷ 0 ∷ 9 ∷ 1 ∷ 1 ∷ []; rights = Control } ∷ record { net = 192 ∷ 168 ∷ 0 ∷ 10 ∷ 1 ∷ 1 ∷ []; rights = Read } ∷ [];
  types = [];
  ports = [];
}

abbrev is_event : Move → Bool
is_event (move.Event e) = true
is_event m = false

abbrev answers_to : List Event → List Move
answers_to events = filter (λ m. not (is_event m)) (relay_play (relay_start description) (map Happens events))

abbrev summary_after : List Event → RelaySummary
summary_after events = relay_summary_of (state_after relay_after_event (relay_start description) (relay_play (relay_start description) (map Happens events)))

-- a request of the first machine to the second, invoke id 1
abbrev request : List ℕ
request = hex (codes "000020000000 c0a8000a01015303 c0a8000901018980 0400040000000000 0000000001000000")

abbrev not_found : List ℕ
not_found = hex (codes "000020000000 c0a8000901018980 c0a8000a01015303 0400050000000000 0700000001000000")

-- a notification of the second machine to the first
abbrev notification : List ℕ
notification = hex (codes "000020000000 c0a8000901018980 c0a8000a01015303 0800040000000000 0000000000000000")

-- its response to the request
abbrev response : List ℕ
response = hex (codes "000020000000 c0a8000901018980 c0a8000a01015303 0400050000000000 0000000001000000")

abbrev relayed : List Event
relayed =
    event.Opened 1 ∷ event.Opened 2 ∷ event.Piece 1 request ∷ event.Piece 2 notification ∷ event.Piece 1 request
    ∷ event.Piece 2 response ∷ event.Piece 2 response ∷ []

-- nobody owns the target; then a notification, a request and one response go across, and a second response to none
relayed_request : answers_to relayed ≡ move.Took 1 38 not_found ∷ move.Took 1 38 notification ∷ move.Took 2 38 request ∷ move.Took 1 38 response ∷ []
unfolding ams_length_of is_header front_of packet_of behind_frame frames_from frames_of left_behind rest_of header_of response_packet produce
    connection_of put_back left_after offers_to peers_after state_after_move state_after moves_of_each turns_of without_first
    outcome_of_response outcome_of_request after_frame after_frames relay_after_event
relayed_request = refl

relayed_counts : summary_after relayed ≡ record { connections = 2; frames = 5; passed = 3; unknown = 1 }
unfolding ams_length_of is_header front_of packet_of behind_frame frames_from frames_of left_behind rest_of header_of response_packet produce
    connection_of put_back left_after offers_to peers_after state_after_move state_after moves_of_each turns_of without_first
    outcome_of_response outcome_of_request after_frame after_frames relay_after_event
relayed_counts = refl

-- a response that comes after its asker has closed goes to nobody, though another connection owns the NetId by then
late_response : answers_to
    (event.Opened 1 ∷ event.Opened 2 ∷ event.Piece 2 notification ∷ event.Piece 1 request ∷ event.Closed 1
    ∷ event.Opened 3 ∷ event.Piece 3 request ∷ event.Closed 3 ∷ event.Piece 2 response ∷ [])
    ≡ move.Took 2 38 request ∷ move.Took 2 38 request ∷ []
unfolding ams_length_of is_header front_of packet_of behind_frame frames_from frames_of left_behind rest_of header_of response_packet produce
    connection_of put_back left_after offers_to peers_after state_after_move state_after moves_of_each turns_of without_first
    outcome_of_response outcome_of_request after_frame after_frames relay_after_event
late_response = refl

abbrev no_request : List ℕ
no_request = hex (codes "000020000000 c0a8000a01015303 c0a8000901018980 0800040000000000 0000000001000000")

late_response_to_none : answers_to
    (event.Opened 1 ∷ event.Opened 2 ∷ event.Piece 2 notification ∷ event.Piece 1 request
    ∷ event.Closed 1 ∷ event.Opened 3 ∷ event.Piece 3 no_request ∷ event.Piece 2 response ∷ [])
    ≡ move.Took 2 38 request ∷ move.Took 2 38 no_request ∷ []
unfolding ams_length_of is_header front_of packet_of behind_frame frames_from frames_of left_behind rest_of header_of response_packet produce
    connection_of put_back left_after offers_to peers_after state_after_move state_after moves_of_each turns_of without_first
    outcome_of_response outcome_of_request after_frame after_frames relay_after_event
late_response_to_none = refl

late_response_counts : summary_after
    (event.Opened 1 ∷ event.Opened 2 ∷ event.Piece 2 notification ∷ event.Piece 1 request
    ∷ event.Closed 1 ∷ event.Opened 3 ∷ event.Piece 3 no_request ∷ event.Piece 2 response ∷ [])
    ≡ record { connections = 3; frames = 4; passed = 2; unknown = 1 }
unfolding ams_length_of is_header front_of packet_of behind_frame frames_from frames_of left_behind rest_of header_of response_packet produce
    connection_of put_back left_after offers_to peers_after state_after_move state_after moves_of_each turns_of without_first
    outcome_of_response outcome_of_request after_frame after_frames relay_after_event
late_response_counts = refl

-- where the new owner asks the same, the response is for it
asked_again : answers_to
    (event.Opened 1 ∷ event.Opened 2 ∷ event.Piece 2 notification ∷ event.Piece 1 request
    ∷ event.Closed 1 ∷ event.Opened 3 ∷ event.Piece 3 request ∷ event.Piece 2 response ∷ [])
    ≡ move.Took 2 38 request ∷ move.Took 2 38 request ∷ move.Took 3 38 response ∷ []
unfolding ams_length_of is_header front_of packet_of behind_frame frames_from frames_of left_behind rest_of header_of response_packet produce
    connection_of put_back left_after offers_to peers_after state_after_move state_after moves_of_each turns_of without_first
    outcome_of_response outcome_of_request after_frame after_frames relay_after_event
asked_again = refl

-- a second owner of a NetId is shut, and so is a connection that changes its NetId, and one with no route
second_owner : answers_to (event.Opened 1 ∷ event.Opened 2 ∷ event.Piece 1 no_request ∷ event.Piece 2 no_request ∷ event.Piece 1 notification ∷ [])
    ≡ move.Shut 2 ∷ move.Shut 1 ∷ []
unfolding ams_length_of is_header front_of packet_of behind_frame frames_from frames_of left_behind rest_of header_of response_packet produce
    connection_of put_back left_after offers_to peers_after state_after_move state_after moves_of_each turns_of without_first
    outcome_of_response outcome_of_request after_frame after_frames relay_after_event
second_owner = refl

no_route : answers_to
    (event.Opened 1 ∷ event.Piece 1 (hex (codes "000020000000 c0a8000a01015303 050102030101 8980 0400040000000000 0000000001000000")) ∷ []) ≡ move.Shut 1 ∷ []
unfolding ams_length_of is_header front_of packet_of behind_frame frames_from frames_of left_behind rest_of header_of response_packet produce
    connection_of put_back left_after offers_to peers_after state_after_move state_after moves_of_each turns_of without_first
    outcome_of_response outcome_of_request after_frame after_frames relay_after_event
no_route = refl

-- a data length that is not the packet's closes; a frame to one's own NetId comes back
wrong_length : answers_to
    (event.Opened 1 ∷ event.Piece 1 (hex (codes "000020000000 c0a8000a01015303 c0a8000901018980 0400040001000000 0000000001000000")) ∷ []) ≡ move.Shut 1 ∷ []
unfolding ams_length_of is_header front_of packet_of behind_frame frames_from frames_of left_behind rest_of header_of response_packet produce
    connection_of put_back left_after offers_to peers_after state_after_move state_after moves_of_each turns_of without_first
    outcome_of_response outcome_of_request after_frame after_frames relay_after_event
wrong_length = refl

abbrev to_itself : List ℕ
to_itself = hex (codes "000020000000 c0a8000901018980 c0a8000901018980 0400040000000000 0000000001000000")

own_frame : answers_to (event.Opened 1 ∷ event.Piece 1 to_itself ∷ []) ≡ move.Took 1 38 to_itself ∷ []
unfolding ams_length_of is_header front_of packet_of behind_frame frames_from frames_of left_behind rest_of header_of response_packet produce
    connection_of put_back left_after offers_to peers_after state_after_move state_after moves_of_each turns_of without_first
    outcome_of_response outcome_of_request after_frame after_frames relay_after_event
own_frame = refl
