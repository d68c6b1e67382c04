-- A frame is passed as a response exactly where it has the mark of one.
use Rattle.std.proofs.Common.{◌≡◌, ℕ, List, [], ◌∷◌, ◌++◌, Bool, true, false, cond, refl, ◌∙◌, ap, inl, inr}
use Rattle.std.specs.Prelude.{Option, Some, None, ◌==◌, ◌%◌}
use Rattle.std.proofs.lemmas.Bool.{cases_Bool}
use Rattle.ads_outside.specs.declared.event.Event.TheVariants as event
use Rattle.ads_outside.specs.declared.moves.Move.{Move}
use Rattle.ads_outside.specs.declared.moves.Move.TheVariants as move
use Rattle.spec_formats.specs.Commands.{DEVICE_NOTIFICATION}
use Rattle.spec_formats.specs.Header.{AmsHeader, header_of, payload_of}
use Rattle.spec_machine.specs.Connection.{connection_of, is_deaf}
use Rattle.spec_machine.specs.Piece.{with_received, packets_left}
use Rattle.spec_relay.specs.RelayState.{Request, RelayConnection, RelayState, relay_start, owner_of}
use Rattle.spec_relay.specs.Requests.{request_answered}
use Rattle.spec_relay.specs.Checks.{is_closed_by}
use Rattle.spec_relay.specs.Routing.{framed, has_room, at_connection, given_to, with_owner, with_frame_taken, after_frame}
use Rattle.spec_relay.specs.Routing.{outcome_of_unknown, outcome_of_response, outcome_of_request, outcome_of_owned}
use Rattle.spec_relay.specs.Routing.{outcome_by_header, outcome_of_frame}
use Rattle.spec_relay.specs.RelayMoves.{relay_after_event}
use Rattle.spec_machine.specs.Moves.{state_after_move}
use Rattle.spec_relay.specs.Passages.{Passage, passages_of_frame_at, passages_of_frame, passages_of_frames}
use Rattle.spec_relay.specs.Passages.{passages_of_piece, passages_of_move, passages_of}
use Rattle.spec_relay.specs.PassedOn.{is_response, is_response_packet}
use Rattle.spec_relay.specs.RelayLaws.{IsMarked, AreMarked, PassesByMark}

unknown-marked : (h : AmsHeader) (p : Passage) (s : RelayState) → IsMarked p (outcome_of_unknown p.sender h s).fate
unknown-marked h p s = elim (cases_Bool (h.command == DEVICE_NOTIFICATION)) [ inl t ↦ rw t tt | inr t ↦ rw t tt ]

response-marked : (h : AmsHeader) (p : Passage) (s : RelayState) → is_response_packet p.packet ≡ true → (o : Option Request)
    → IsMarked p (outcome_of_response p.sender h p.packet s o).fate
unfolding outcome_of_response
response-marked h p s m None = tt
response-marked h p s m (Some r) = elim (cases_Bool (has_room (framed p.packet) (connection_of r.asker s.connections)))
    [ inl t ↦ rw t m | inr t ↦ rw t tt ]

request-marked : (h : AmsHeader) (p : Passage) (s : RelayState) → is_response_packet p.packet ≡ false → (o : Option RelayConnection)
    → IsMarked p (outcome_of_request p.sender h p.packet s o).fate
unfolding outcome_of_request
request-marked h p s m None = unknown-marked h p s
request-marked h p s m (Some k) = elim (cases_Bool (has_room (framed p.packet) (connection_of k.number s.connections)))
    [ inl t ↦ rw t m | inr t ↦ rw t (unknown-marked h p (given_to k.number p.packet s)) ]

owned-marked : (h : AmsHeader) (p : Passage) (s : RelayState) → header_of p.packet ≡ Some h → IsMarked p (outcome_of_owned p.sender h p.packet s).fate
owned-marked h p s e = by (h.flags % 2 == 1) refl
  where
    by : (b : Bool) → (h.flags % 2 == 1) ≡ b
        → IsMarked p (cond b (outcome_of_response p.sender h p.packet s (request_answered p.sender h s.world.requests))
        (outcome_of_request p.sender h p.packet s (owner_of h.target.net s.connections))).fate
    by true t = response-marked h p s (ap is_response e ∙ t) (request_answered p.sender h s.world.requests)
    by false t = request-marked h p s (ap is_response e ∙ t) (owner_of h.target.net s.connections)

header-marked : (p : Passage) (k : RelayConnection) (s : RelayState) (o : Option AmsHeader)
    → header_of p.packet ≡ o → IsMarked p (outcome_by_header p.sender p.packet k s o).fate
header-marked p k s None e = tt
header-marked p k s (Some h) e = elim (cases_Bool (is_closed_by (payload_of p.packet) h k s))
    [ inl t ↦ rw t tt | inr t ↦ rw t (owned-marked h p (with_owner p.sender h.source.net s) e) ]

marked-append : (ps qs : List Passage) → AreMarked ps → AreMarked qs → AreMarked (ps ++ qs)
unfolding AreMarked
marked-append [] qs a b = b
marked-append (p ∷ ps) qs a b = (a.0, marked-append ps qs (a.1) b)

frame-marked : (c : ℕ) (packet : List ℕ) (s : RelayState) → AreMarked (passages_of_frame c packet s)
unfolding passages_of_frame AreMarked
frame-marked c packet s = go (connection_of c s.connections)
  where
    go : (o : Option RelayConnection) → AreMarked (passages_of_frame_at c packet s o)
    go None = tt
    go (Some k) = elim (cases_Bool k.closing) [
      | inl t ↦ rw t tt
      | inr t ↦
          let p : Passage = record { sender = c; packet = packet; fate = (outcome_of_frame c packet k s).fate } in
          rw t (header-marked p k (with_frame_taken c s) (header_of packet) refl, tt)
    ]

frames-marked : (c : ℕ) (packets : List (List ℕ)) (s : RelayState) → AreMarked (passages_of_frames c packets s)
unfolding passages_of_frames AreMarked
frames-marked c [] s = tt
frames-marked c (packet ∷ packets) s =
    marked-append (passages_of_frame c packet s) (passages_of_frames c packets (after_frame c packet s))
    (frame-marked c packet s) (frames-marked c packets (after_frame c packet s))

move-marked : (m : Move) (s : RelayState) → AreMarked (passages_of_move s m)
unfolding AreMarked
move-marked (move.Event (event.Opened n)) s = tt
move-marked (move.Event (event.Piece n piece)) s = go (connection_of n s.connections)
  where
    go : (o : Option RelayConnection) → AreMarked (passages_of_piece n piece s o)
    go None = tt
    go (Some k) = elim (cases_Bool (is_deaf k))
        [ inl t ↦ rw t tt | inr t ↦ rw t (frames-marked n (packets_left (with_received piece k)) (at_connection n (with_received piece) s)) ]
move-marked (move.Event (event.Closed n)) s = tt
move-marked (move.Event (event.Tick t)) s = tt
move-marked (move.Event (event.Reload text)) s = tt
move-marked (move.Event (event.Writable n)) s = tt
move-marked (move.Took n offered bytes) s = tt
move-marked (move.Lost n) s = tt
move-marked (move.Shut n) s = tt

log-marked : (log : List Move) (s : RelayState) → AreMarked (passages_of s log)
unfolding passages_of AreMarked
log-marked [] s = tt
log-marked (m ∷ ms) s = marked-append (passages_of_move s m) (passages_of (state_after_move relay_after_event s m) ms)
    (move-marked m s) (log-marked ms (state_after_move relay_after_event s m))

pub passes_by_mark : PassesByMark
passes_by_mark description log = log-marked log (relay_start description)
