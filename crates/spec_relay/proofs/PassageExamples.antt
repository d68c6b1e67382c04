-- What became of each frame, and what passages bring, by computation.
use Rattle.std.specs.Prelude.{◌≡◌, refl, ℕ, List, [], ◌∷◌, ◌++◌, codes, map, true, false}
use Rattle.std.proofs.Common.{sym}
use Rattle.std.proofs.lemmas.Bool.{false≢true}
use Rattle.spec_frames.specs.Division.{ams_length_of, is_header, front_of, packet_of, behind_frame, frames_from, frames_of, left_behind, rest_of}
use Rattle.spec_plant.specs.Description.{Control, Read, Description}
use Rattle.ads_outside.specs.declared.event.Event.TheVariants as event
use Rattle.ads_outside.specs.declared.moves.Move.{Move}
use Rattle.ads_outside.specs.declared.moves.Move.TheVariants as move
use Rattle.spec_formats.specs.Header.{header_of}
use Rattle.spec_machine.specs.Replies.{response_packet}
use Rattle.spec_machine.specs.Connection.{produce, connection_of, put_back}
use Rattle.spec_machine.specs.Moves.{state_after_move, state_after}
use Rattle.spec_relay.specs.RelayState.{Request}
use Rattle.spec_relay.specs.Requests.{without_first}
use Rattle.spec_relay.specs.Routing.{Fate, Asked, Answered, NotFound, Dropped, outcome_of_response, outcome_of_request, after_frame}
use Rattle.spec_relay.specs.RelayMoves.{after_frames, relay_after_event}
use Rattle.spec_relay.specs.Passages.{Passage, passages_of, passages_of_frame, passages_of_frames}
use Rattle.spec_relay.specs.PassedOn.{all_frames_to, packets_from, all_asked, all_answered, is_response_packet}
use Rattle.spec_relay.specs.RelayLaws.{relay_passages, relay_state_after, frames_given_to, packets_taken, AreMarked}
use Rattle.spec_frames.proofs.Hex.{hex}

-- 192.168.0.9.1.1 and 192.168.0.10.1.1
abbrev description : Description
description = record {
  net = 5 ∷ 1 ∷ 2 ∷ 3 ∷ 1 ∷ 1 ∷ [];
  routes = record { net = 192 ∷ 168 ∷ 0 ∷ 9 ∷ 1 ∷ 1 ∷ []; rights = Control } ∷ record { net = 192 ∷ 168 ∷ 0 ∷ 10 ∷ 1 ∷ 1 ∷ []; rights = Read } ∷ [];
  types = [];
  ports = [];
}

-- a request of the first machine to the second, invoke id 1; its response, and one of another id; a notification of the second
abbrev request : List ℕ
request = hex (codes "c0a8000a01015303 c0a8000901018980 0400040000000000 0000000001000000")

abbrev response : List ℕ
response = hex (codes "c0a8000901018980 c0a8000a01015303 0400050000000000 0000000001000000")

abbrev other_response : List ℕ
other_response = hex (codes "c0a8000901018980 c0a8000a01015303 0400050000000000 0000000002000000")

abbrev notification : List ℕ
notification = hex (codes "c0a8000901018980 c0a8000a01015303 0800040000000000 0000000000000000")

-- what tells the first machine that nobody owns the target
abbrev not_found : List ℕ
not_found = hex (codes "c0a8000901018980 c0a8000a01015303 0400050000000000 0700000001000000")

-- a request of a machine without a route
abbrev unrouted : List ℕ
unrouted = hex (codes "c0a8000a01015303 0501020301018980 0400040000000000 0000000001000000")

abbrev framed : List ℕ → List ℕ
framed packet = hex (codes "000020000000") ++ packet

abbrev sends : ℕ → List ℕ → Move
sends c packet = move.Event (event.Piece c (framed packet))

abbrev opened : ℕ → Move
opened c = move.Event (event.Opened c)

-- the first machine asks, and nobody owns the target; the second sends a notification, and owns its NetId by that; the first
-- asks again; the second answers by another id, then rightly, then again
abbrev log : List Move
log = opened 1 ∷ opened 2 ∷ sends 1 request ∷ sends 2 notification ∷ sends 1 request
    ∷ sends 2 other_response ∷ sends 2 response ∷ sends 2 response ∷ []

abbrev passages : List Passage
passages = relay_passages description log

abbrev passed : ℕ → List ℕ → Fate → Passage
passed sender packet fate = record { sender = sender; packet = packet; fate = fate }

abbrev fates : List Move → List Fate
fates log = map (λ (p : Passage). p.fate) (relay_passages description log)

-- the request that the first machine made of the second
abbrev asked : Request
asked = record {
  asker = 1;
  asked = 2;
  source = record { net = 192 ∷ 168 ∷ 0 ∷ 9 ∷ 1 ∷ 1 ∷ []; port = 32905 };
  target = record { net = 192 ∷ 168 ∷ 0 ∷ 10 ∷ 1 ∷ 1 ∷ []; port = 851 };
  command = 4;
  id = 1;
}

pub record PassageRows : Type 0 where
  pub each : passages ≡ passed 1 request (NotFound true) ∷ passed 2 notification (Asked 1) ∷ passed 1 request (Asked 2)
      ∷ passed 2 other_response Dropped ∷ passed 2 response (Answered 1) ∷ passed 2 response Dropped ∷ []
  -- a notification to nobody is told to nobody; a frame without a route closes its connection, and none behind it passes
  pub notification_to_nobody : fates (opened 2 ∷ sends 2 notification ∷ []) ≡ NotFound false ∷ []
  pub no_route : fates (opened 1 ∷ opened 2 ∷ sends 2 notification ∷ sends 1 unrouted ∷ sends 1 request ∷ [])
      ≡ NotFound false ∷ Dropped ∷ []
  pub behind_it : fates (opened 1 ∷ move.Event (event.Piece 1 (framed unrouted ++ framed request)) ∷ []) ≡ Dropped ∷ []
  pub nobody : fates (sends 1 request ∷ []) ≡ []
  -- what each is given, and what each sent
  pub to_first : all_frames_to 1 passages ≡ framed not_found ∷ framed notification ∷ framed response ∷ []
  pub to_second : all_frames_to 2 passages ≡ framed request ∷ []
  pub to_third : all_frames_to 3 passages ≡ []
  pub given_first : frames_given_to 1 (relay_state_after description log) ≡ framed not_found ∷ framed notification ∷ framed response ∷ []
  pub given_second : frames_given_to 2 (relay_state_after description log) ≡ framed request ∷ []
  pub from_first : packets_from 1 passages ≡ request ∷ request ∷ []
  pub from_second : packets_from 2 passages ≡ notification ∷ other_response ∷ response ∷ response ∷ []
  pub taken_first : packets_taken (connection_of 1 (relay_state_after description log).connections) ≡ request ∷ request ∷ []
  -- the request, and that it is answered once
  pub asks : all_asked passages ≡ asked ∷ []
  pub answers : all_answered passages ≡ asked ∷ []
  -- by the mark of a response
  pub request_has_none : is_response_packet request ≡ false
  pub response_has_it : is_response_packet response ≡ true
  pub marked : AreMarked passages
  pub response_as_a_request : AreMarked (passed 2 response (Asked 1) ∷ []) → ⊥
  pub request_as_a_response : AreMarked (passed 1 request (Answered 2) ∷ []) → ⊥

pub passage_rows : PassageRows
unfolding ams_length_of is_header front_of packet_of behind_frame frames_from frames_of left_behind rest_of header_of response_packet produce
    connection_of put_back state_after_move state_after without_first outcome_of_response outcome_of_request after_frame after_frames
    relay_after_event passages_of passages_of_frame passages_of_frames AreMarked
passage_rows = record {
  each = refl;
  notification_to_nobody = refl;
  no_route = refl;
  behind_it = refl;
  nobody = refl;
  to_first = refl;
  to_second = refl;
  to_third = refl;
  given_first = refl;
  given_second = refl;
  from_first = refl;
  from_second = refl;
  taken_first = refl;
  asks = refl;
  answers = refl;
  request_has_none = refl;
  response_has_it = refl;
  marked = (tt, (refl, (refl, (tt, (refl, (tt, tt))))));
  response_as_a_request = λ m. false≢true (sym (m.0));
  request_as_a_response = λ m. false≢true (m.0);
}
