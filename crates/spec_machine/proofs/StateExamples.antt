-- The machine over a small device, by computation.
use Rattle.std.specs.Prelude.{◌≡◌, refl, ℕ, List, [], ◌∷◌, ◌++◌, map, filter, Bool, true, false, not, codes}
use Rattle.spec_frames.specs.Division.{ams_length_of, is_header, front_of, packet_of, behind_frame, frames_from, frames_of, left_behind, rest_of}
use Rattle.ads_outside.specs.declared.event.Event.{Event}
use Rattle.ads_outside.specs.declared.event.Event.TheVariants as event
use Rattle.ads_outside.specs.declared.moves.Move.{Move}
use Rattle.ads_outside.specs.declared.moves.Move.TheVariants as move
use Rattle.spec_machine.specs.Connection.{produce, produce_all, connection_of, put_back}
use Rattle.spec_machine.specs.MachineState.{start_of}
use Rattle.spec_machine.specs.Piece.{after_packet, after_packets, after_piece}
use Rattle.spec_machine.specs.Moves.{state_after_move, state_after}
use Rattle.spec_machine.specs.Events.{state_after_event}
use Rattle.spec_machine.specs.Offers.{left_after}
use Rattle.spec_machine.specs.Peers.{offers_to, peers_after}
use Rattle.spec_machine.specs.Play.{moves_of_each, turns_of, play_of_events}
use Rattle.spec_machine.specs.Summary.{Summary, summary_of}
use Rattle.spec_machine.proofs.StateDevice.{state_step}
use Rattle.spec_frames.proofs.Hex.{hex}

abbrev is_event : Move → Bool
is_event (move.Event e) = true
is_event m = false

-- what the machine's log of these events has beside them
abbrev answers_to : List Event → List Move
answers_to events =
    filter (λ m. not (is_event m)) (play_of_events state_step (start_of tt) events)

-- connection 1 is opened, and these pieces come
abbrev pieces : List (List ℕ) → List Event
pieces bytes = event.Opened 1 ∷ map (event.Piece 1) bytes

abbrev one_by_one : List ℕ → List (List ℕ)
one_by_one bytes = map (λ b. b ∷ []) bytes

-- the summary after the log of these events
abbrev summary_after : List Event → Summary
summary_after events =
    summary_of (state_after state_step (start_of tt) (play_of_events state_step (start_of tt) events))

abbrev counts : ℕ → ℕ → ℕ → Summary
counts connections requests replies = record { connections = connections; requests = requests; replies = replies; samples = 0; accepted = 0; refused = 0 }

-- a state request, invoke id 1
abbrev request : List ℕ
request = hex (codes "000020000000 0501020301015303 c0a8000901018980 0400040000000000 0000000001000000")

-- its reply: RUN, device state 0
abbrev reply : List ℕ
reply = hex (codes "000028000000 c0a8000901018980 0501020301015303 0400050008000000 0000000001000000 0000000005000000")

in_one_piece : answers_to (pieces (request ∷ [])) ≡ move.Took 1 46 reply ∷ []
unfolding ams_length_of is_header front_of packet_of behind_frame frames_from frames_of left_behind rest_of produce produce_all connection_of put_back
    after_packet after_packets after_piece state_after_event state_after_move state_after left_after offers_to peers_after moves_of_each turns_of
in_one_piece = refl

summary_of_one_piece : summary_after (pieces (request ∷ [])) ≡ counts 1 1 1
unfolding ams_length_of is_header front_of packet_of behind_frame frames_from frames_of left_behind rest_of produce produce_all connection_of put_back
    after_packet after_packets after_piece state_after_event state_after_move state_after left_after offers_to peers_after moves_of_each turns_of
summary_of_one_piece = refl

byte_by_byte : answers_to (pieces (one_by_one request)) ≡ move.Took 1 46 reply ∷ []
unfolding ams_length_of is_header front_of packet_of behind_frame frames_from frames_of left_behind rest_of produce produce_all connection_of put_back
    after_packet after_packets after_piece state_after_event state_after_move state_after left_after offers_to peers_after moves_of_each turns_of
byte_by_byte = refl

-- two requests and the beginning of a third
two_and_a_beginning : answers_to (pieces ((request ++ (request ++ hex (codes "0000200000"))) ∷ [])) ≡ move.Took 1 46 reply ∷ move.Took 1 46 reply ∷ []
unfolding ams_length_of is_header front_of packet_of behind_frame frames_from frames_of left_behind rest_of produce produce_all connection_of put_back
    after_packet after_packets after_piece state_after_event state_after_move state_after left_after offers_to peers_after moves_of_each turns_of
two_and_a_beginning = refl

summary_of_two : summary_after (pieces ((request ++ (request ++ hex (codes "0000200000"))) ∷ [])) ≡ counts 1 2 2
unfolding ams_length_of is_header front_of packet_of behind_frame frames_from frames_of left_behind rest_of produce produce_all connection_of put_back
    after_packet after_packets after_piece state_after_event state_after_move state_after left_after offers_to peers_after moves_of_each turns_of
summary_of_two = refl

-- reserved bytes that are not zero: five bytes wait, the sixth shuts
five_bytes_wait : answers_to (pieces (hex (codes "0100200000") ∷ [])) ≡ []
unfolding ams_length_of is_header front_of packet_of behind_frame frames_from frames_of left_behind rest_of produce produce_all connection_of put_back
    after_packet after_packets after_piece state_after_event state_after_move state_after left_after offers_to peers_after moves_of_each turns_of
five_bytes_wait = refl

reserved_bytes_shut : answers_to (pieces (hex (codes "0100200000") ∷ hex (codes "00ff") ∷ [])) ≡ move.Shut 1 ∷ []
unfolding ams_length_of is_header front_of packet_of behind_frame frames_from frames_of left_behind rest_of produce produce_all connection_of put_back
    after_packet after_packets after_piece state_after_event state_after_move state_after left_after offers_to peers_after moves_of_each turns_of
reserved_bytes_shut = refl

summary_of_reserved_bytes : summary_after (pieces (hex (codes "0100200000") ∷ hex (codes "00ff") ∷ [])) ≡ counts 1 0 0
unfolding ams_length_of is_header front_of packet_of behind_frame frames_from frames_of left_behind rest_of produce produce_all connection_of put_back
    after_packet after_packets after_piece state_after_event state_after_move state_after left_after offers_to peers_after moves_of_each turns_of
summary_of_reserved_bytes = refl

-- the AMS length is from 32 to 2,097,152
length_31_shuts : answers_to (pieces (hex (codes "00001f000000") ∷ [])) ≡ move.Shut 1 ∷ []
unfolding ams_length_of is_header front_of packet_of behind_frame frames_from frames_of left_behind rest_of produce produce_all connection_of put_back
    after_packet after_packets after_piece state_after_event state_after_move state_after left_after offers_to peers_after moves_of_each turns_of
length_31_shuts = refl

length_2097152_waits : answers_to (pieces (hex (codes "000000002000") ∷ [])) ≡ []
unfolding ams_length_of is_header front_of packet_of behind_frame frames_from frames_of left_behind rest_of produce produce_all connection_of put_back
    after_packet after_packets after_piece state_after_event state_after_move state_after left_after offers_to peers_after moves_of_each turns_of
length_2097152_waits = refl

length_2097153_shuts : answers_to (pieces (hex (codes "000001002000") ∷ [])) ≡ move.Shut 1 ∷ []
unfolding ams_length_of is_header front_of packet_of behind_frame frames_from frames_of left_behind rest_of produce produce_all connection_of put_back
    after_packet after_packets after_piece state_after_event state_after_move state_after left_after offers_to peers_after moves_of_each turns_of
length_2097153_shuts = refl

-- the frames before a broken one are answered first; what comes behind is not read
answered_then_shut : answers_to (pieces ((request ++ hex (codes "000000000000")) ∷ request ∷ [])) ≡ move.Took 1 46 reply ∷ move.Shut 1 ∷ []
unfolding ams_length_of is_header front_of packet_of behind_frame frames_from frames_of left_behind rest_of produce produce_all connection_of put_back
    after_packet after_packets after_piece state_after_event state_after_move state_after left_after offers_to peers_after moves_of_each turns_of
answered_then_shut = refl

nothing_happens : answers_to [] ≡ []
unfolding ams_length_of is_header front_of packet_of behind_frame frames_from frames_of left_behind rest_of produce produce_all connection_of put_back
    after_packet after_packets after_piece state_after_event state_after_move state_after left_after offers_to peers_after moves_of_each turns_of
nothing_happens = refl

summary_of_nothing : summary_after [] ≡ counts 0 0 0
unfolding ams_length_of is_header front_of packet_of behind_frame frames_from frames_of left_behind rest_of produce produce_all connection_of put_back
    after_packet after_packets after_piece state_after_event state_after_move state_after left_after offers_to peers_after moves_of_each turns_of
summary_of_nothing = refl

-- ReadDeviceInfo, invoke id 7, is an unknown command
device_info : answers_to (pieces (hex (codes "000020000000 0501020301015303 c0a8000901018980 0100040000000000 0000000007000000") ∷ []))
    ≡ move.Took 1 38 (hex (codes "000020000000 c0a8000901018980 0501020301015303 0100050000000000 0800000007000000")) ∷ []
unfolding ams_length_of is_header front_of packet_of behind_frame frames_from frames_of left_behind rest_of produce produce_all connection_of put_back
    after_packet after_packets after_piece state_after_event state_after_move state_after left_after offers_to peers_after moves_of_each turns_of
device_info = refl

-- a state request with an error field is answered all the same; one with data is not
error_field : answers_to
    (pieces (hex (codes "000020000000 0501020301015303 c0a8000901018980 0400040000000000 ffffffff01000000") ∷ [])) ≡ move.Took 1 46 reply ∷ []
unfolding ams_length_of is_header front_of packet_of behind_frame frames_from frames_of left_behind rest_of produce produce_all connection_of put_back
    after_packet after_packets after_piece state_after_event state_after_move state_after left_after offers_to peers_after moves_of_each turns_of
error_field = refl
