-- What a relay promises of small logs, and what its play prints, by computation.
use Rattle.std.specs.Prelude.{◌≡◌, refl, ℕ, List, [], ◌∷◌, ◌++◌, codes, ◌==◌}
use Rattle.std.proofs.Common.{ap, lit≤, sym}
use Rattle.std.proofs.lemmas.Bool.{false≢true}
use Rattle.std.specs.Fmt.{digits}
use Rattle.hex.specs.Hex.{encode_with}
use Rattle.spec_frames.specs.Division.{ams_length_of, is_header, front_of, packet_of, behind_frame, frames_from, frames_of, left_behind, rest_of}
use Rattle.spec_plant.specs.Description.{Control, Read, Description}
use Rattle.ads_outside.specs.declared.event.Event.TheVariants as event
use Rattle.ads_outside.specs.declared.moves.Move.{Move}
use Rattle.ads_outside.specs.declared.moves.Move.TheVariants as move
use Rattle.spec_formats.specs.Header.{header_of}
use Rattle.spec_machine.specs.Replies.{response_packet}
use Rattle.spec_machine.specs.Connection.{produce, connection_of, put_back}
use Rattle.spec_machine.specs.Delivery.{is_cut_off, is_short_from}
use Rattle.spec_machine.specs.LogText.{log_text_of}
use Rattle.spec_machine.specs.MachineState.{output_of_connection}
use Rattle.spec_machine.specs.Moves.{state_after_move, state_after}
use Rattle.spec_machine.specs.Offers.{left_after, taken_of}
use Rattle.spec_machine.specs.Peers.{offers_to, peers_after}
use Rattle.spec_machine.specs.Play.{moves_of_each, turns_of}
use Rattle.spec_machine.specs.ScriptLine.{Happens}
use Rattle.spec_machine.specs.Turns.{AreTurns}
use Rattle.spec_relay.specs.RelayState.{relay_start}
use Rattle.spec_relay.specs.Requests.{without_first}
use Rattle.spec_relay.specs.Routing.{outcome_of_response, outcome_of_request, after_frame}
use Rattle.spec_relay.specs.RelayMoves.{after_frames, relay_after_event}
use Rattle.spec_relay.specs.Passages.{passages_of}
use Rattle.spec_relay.specs.RelayLaws.{AreMarked}
use Rattle.spec_relay.specs.RelayPromises.{RelayKeepsPromises, RelayKeepsPromisesSoFar}
use Rattle.spec_relay.specs.RelaySummary.{relay_summary_text, relay_text}
use Rattle.spec_frames.proofs.Hex.{hex}

-- 192.168.0.9.1.1 and 192.168.0.10.1.1
abbrev description : Description
description = record {
  net = 5 ∷ 1 ∷ 2 ∷ 3 ∷ 1 ∷ 1 ∷ [];
  routes = record { net = 192 ∷ 168 ∷ 0 ∷ 9 ∷ 1 ∷ 1 ∷ []; rights = Control } ∷ record { net = 192 ∷ 168 ∷ 0 ∷ 10 ∷ 1 ∷ 1 ∷ []; rights = Read } ∷ [];
  types = [];
  ports = [];
}

-- a request of the first machine to the second, which is not there, and what tells that
abbrev request : List ℕ
request = hex (codes "000020000000 c0a8000a01015303 c0a8000901018980 0400040000000000 0000000001000000")

abbrev not_found : List ℕ
not_found = hex (codes "000020000000 c0a8000901018980 c0a8000a01015303 0400050000000000 0700000001000000")

abbrev opens : Move
opens = move.Event (event.Opened 1)

abbrev asks : Move
asks = move.Event (event.Piece 1 request)

abbrev took : List ℕ → Move
took bytes = move.Took 1 38 bytes

-- of an empty log, and of one in which a connection is opened, all is kept
nothing_happened : RelayKeepsPromises description []
unfolding connection_of state_after passages_of AreMarked taken_of AreTurns
nothing_happened = record {
  turns = record { turns = []; whole = refl; served = tt };
  passes = record { given = λ c. refl; taken = λ c. refl; once = λ test. lit≤ tt; marked = tt };
  begins = λ c. ([], refl);
  all = λ c short cut. refl;
}

-- what the promise comes to where the response was taken whole: that this was given
promised : RelayKeepsPromises description (opens ∷ asks ∷ took not_found ∷ [])
    → not_found ++ [] ≡ output_of_connection (connection_of 1 (state_after relay_after_event (relay_start description) (opens ∷ asks ∷ [])).connections)
unfolding ams_length_of is_header front_of packet_of behind_frame frames_from frames_of left_behind rest_of header_of response_packet produce
    connection_of put_back state_after_move state_after without_first outcome_of_response outcome_of_request after_frame after_frames
    relay_after_event taken_of is_cut_off is_short_from
promised p = p.all 1 refl refl

abbrev head_of : List ℕ → ℕ
head_of [] = 1
head_of (x ∷ xs) = x

-- it is broken where other bytes were taken, where nothing was that waits, and where something was that was not given
other_bytes : RelayKeepsPromisesSoFar description (opens ∷ asks ∷ took (7 ∷ []) ∷ []) → ⊥
unfolding ams_length_of is_header front_of packet_of behind_frame frames_from frames_of left_behind rest_of header_of response_packet produce
    connection_of put_back state_after_move state_after without_first outcome_of_response outcome_of_request after_frame after_frames
    relay_after_event taken_of
other_bytes p = false≢true (ap (λ l. head_of l == 7) ((p.begins 1).1))

nothing_taken : RelayKeepsPromises description (opens ∷ asks ∷ []) → ⊥
unfolding ams_length_of is_header front_of packet_of behind_frame frames_from frames_of left_behind rest_of header_of response_packet produce
    connection_of put_back state_after_move state_after without_first outcome_of_response outcome_of_request after_frame after_frames
    relay_after_event taken_of is_cut_off is_short_from
nothing_taken p = false≢true (sym (ap (λ l. head_of l == 1) (p.all 1 refl refl)))

nothing_given : RelayKeepsPromisesSoFar description (opens ∷ took (0 ∷ []) ∷ []) → ⊥
unfolding connection_of put_back state_after_move state_after relay_after_event taken_of
nothing_given p = false≢true (sym (ap (λ l. head_of l == 1) ((p.begins 1).1)))

-- the counts, and what a play prints: what was taken, and the counts
counts : relay_summary_text (record { connections = 2; frames = 6; passed = 4; unknown = 1 }) ≡ codes "connections 2 frames 6 passed 4 unknown 1\n"
unfolding digits
counts = refl

printed : relay_text (relay_start description) (Happens (event.Opened 1) ∷ Happens (event.Piece 1 request) ∷ [])
    ≡ codes "out 1 000020000000c0a8000901018980c0a8000a0101530304000500000000000700000001000000\nconnections 1 frames 1 passed 0 unknown 1\n"
unfolding ams_length_of is_header front_of packet_of behind_frame frames_from frames_of left_behind rest_of header_of response_packet produce
    connection_of put_back state_after_move state_after without_first outcome_of_response outcome_of_request after_frame after_frames
    relay_after_event digits left_after offers_to peers_after moves_of_each turns_of log_text_of encode_with
printed = refl
