-- A connection is given what passages bring to it.
use Rattle.std.proofs.Common.{◌≡◌, ℕ, List, [], ◌∷◌, ◌++◌, map, length, Bool, true, false, cond, refl, sym, subst, ◌∙◌, ap, inl, inr, append_assoc}
use Rattle.std.specs.Prelude.{Option, Some, None, option_map, ◌==◌, ◌%◌}
use Rattle.std.proofs.lemmas.Bool.{cases_Bool, cond_both, or_right, or_left, or_from, and_left, and_right}
use Rattle.std.proofs.lemmas.Bool.{and_from, not_from_true, not_from_false, cases_eq, eq-eqb, ne_eqb}
use Rattle.std.proofs.lemmas.List.{append-nil, map-append}
use Rattle.std.proofs.lemmas.Grind.{flat_map-append}
use Rattle.spec_frames.specs.Frame.{frame_bytes}
use Rattle.spec_frames.specs.Division.{is_broken, front_of, rest_of}
use Rattle.ads_outside.specs.declared.event.Event.{Event}
use Rattle.ads_outside.specs.declared.event.Event.TheVariants as event
use Rattle.ads_outside.specs.declared.moves.Move.{Move}
use Rattle.ads_outside.specs.declared.moves.Move.TheVariants as move
use Rattle.spec_formats.specs.Header.{AmsHeader, header_of, payload_of}
use Rattle.spec_formats.specs.Commands.{DEVICE_NOTIFICATION}
use Rattle.spec_machine.specs.Device.{Produced}
use Rattle.spec_machine.specs.Connection.{connection_of, is_deaf, fits, bytes_of, with_closing, produce, fresh_connection, with_frame}
use Rattle.spec_machine.specs.Piece.{with_received, packets_left, with_one_taken, with_client, after_rest}
use Rattle.spec_machine.specs.Moves.{with_gone, with_took}
use Rattle.spec_machine.specs.MachineState.{Exchange}
use Rattle.spec_machine.proofs.Changes.{with_took-number, with_gone-number}
use Rattle.spec_machine.proofs.Growth.{produce-grows}
use Rattle.spec_relay.specs.RelayState.{Request, RelayWorld, Owned, RelayConnection, RelayState, relay_start, owner_of}
use Rattle.spec_relay.specs.Requests.{request_answered}
use Rattle.spec_relay.specs.Checks.{is_closed_by}
use Rattle.spec_relay.specs.Routing.{RelayOutcome, framed, has_room, delivered, at_connection, given_to, not_found_packet}
use Rattle.spec_relay.specs.Routing.{with_request_of, with_owner, with_frame_taken, after_frame_of, after_frame}
use Rattle.spec_relay.specs.Routing.{outcome_of_unknown, outcome_of_response, outcome_of_request, outcome_of_owned}
use Rattle.spec_relay.specs.Routing.{outcome_by_header, outcome_of_frame}
use Rattle.spec_relay.specs.RelayMoves.{after_frames, after_piece_of, relay_after_event}
use Rattle.spec_machine.specs.Moves.{state_after_move, state_after}
use Rattle.spec_relay.specs.Passages.{Passage, passages_of_frame_at, passages_of_frame, passages_of_frames}
use Rattle.spec_relay.specs.Passages.{passages_of_piece, passages_of_event, passages_of_move, passages_of}
use Rattle.spec_relay.specs.PassedOn.{told_frames, frames_by_fate, frames_to, all_frames_to}
use Rattle.spec_relay.specs.RelayLaws.{frames_given, frames_given_to, GivesPassages}
use Rattle.spec_relay.proofs.ChangeLemmas.{exchange-keeps, changed-own, changed-other, change-keeps, opened-keeps}

pub delivered-number : (frame : Produced) (k : RelayConnection) → (delivered frame k).number ≡ k.number
delivered-number frame k = cond_both k.gone k (produce frame k) (λ (l : RelayConnection). l.number ≡ k.number) (λ g. refl) (λ g. (produce-grows frame k).number)

-- a frame is added where there is room for it
room-frames : (frame : Produced) (k l : RelayConnection) (b : Bool) → has_room frame (Some k) ≡ b
    → map bytes_of l.produced ≡ map bytes_of k.produced ++ cond b (bytes_of frame ∷ []) []
    → map bytes_of l.produced ≡ map bytes_of k.produced ++ cond (has_room frame (Some k)) (bytes_of frame ∷ []) []
room-frames frame k l b room e = e ∙ ap (λ (t : Bool). map bytes_of k.produced ++ cond t (bytes_of frame ∷ []) []) (sym room)

no_room : (frame : Produced) (k : RelayConnection) → is_deaf k ≡ true → has_room frame (Some k) ≡ false
no_room frame k deaf = and_left _ _ (not_from_true (is_deaf k) deaf)

produced-frames : (frame : Produced) (o : Option RelayConnection)
    → frames_given (option_map (delivered frame) o) ≡ frames_given o ++ cond (has_room frame o) (bytes_of frame ∷ []) []
unfolding produce
produced-frames frame None = refl
produced-frames frame (Some k) =
    let same : map bytes_of k.produced ≡ map bytes_of k.produced ++ [] = sym (append-nil (map bytes_of k.produced)) in
    let P : RelayConnection → Type 0 = λ l. map bytes_of l.produced ≡ map bytes_of k.produced ++ cond (has_room frame (Some k)) (bytes_of frame ∷ []) [] in
    cond_both k.gone k (produce frame k) P
    (λ g. room-frames frame k k false (no_room frame k (or_right k.closing k.gone g)) same)
    (λ g. cond_both k.closing k (cond (fits frame k) (with_frame frame k) (with_closing k)) P
    (λ c. room-frames frame k k false (no_room frame k (or_left k.closing k.gone c)) same)
    (λ c. let heard = not_from_false (is_deaf k) (or_from k.closing k.gone c g) in
    cond_both (fits frame k) (with_frame frame k) (with_closing k) P
    (λ f. room-frames frame k (with_frame frame k) true (and_from _ _ heard f) (map-append bytes_of k.produced (frame ∷ [])))
    (λ f. room-frames frame k (with_closing k) false (and_right _ _ f) same)))

given-frames : (n d : ℕ) (packet : List ℕ) (s : RelayState)
    → frames_given_to d (given_to n packet s) ≡ frames_given_to d s
    ++ cond (has_room (framed packet) (connection_of n s.connections)) (cond (n == d) (frame_bytes packet ∷ []) []) []
given-frames n d packet s = elim (cases_eq n d) [
  | inl q ↦
      let t = eq-eqb n d q in
      let P : ℕ → Type 0 = λ i. frames_given_to d (given_to i packet s) ≡ frames_given_to d s
      ++ cond (has_room (framed packet) (connection_of i s.connections)) (frame_bytes packet ∷ []) [] in
      rw t (subst P (sym q)
      (ap frames_given (changed-own d (delivered (framed packet)) (delivered-number (framed packet)) s)
      ∙ produced-frames (framed packet) (connection_of d s.connections)))
  | inr ne ↦
      let t = ne_eqb n d ne in
      rw t (ap frames_given (changed-other n d (delivered (framed packet)) (delivered-number (framed packet)) ne s)
      ∙ sym (append-nil (frames_given_to d s))
      ∙ ap (λ (l : List (List ℕ)). frames_given_to d s ++ l) (sym (nothing (has_room (framed packet) (connection_of n s.connections)))))
]
  where
    nothing : (b : Bool) → cond {A = List (List ℕ)} b [] [] ≡ []
    nothing true = refl
    nothing false = refl

given-yes : (n d : ℕ) (packet : List ℕ) (s : RelayState) → has_room (framed packet) (connection_of n s.connections) ≡ true
    → frames_given_to d (given_to n packet s) ≡ frames_given_to d s ++ cond (n == d) (frame_bytes packet ∷ []) []
given-yes n d packet s t = given-frames n d packet s ∙ ap (λ (b : Bool). frames_given_to d s ++ cond b (cond (n == d) (frame_bytes packet ∷ []) []) []) t

given-no : (n d : ℕ) (packet : List ℕ) (s : RelayState) → has_room (framed packet) (connection_of n s.connections) ≡ false
    → frames_given_to d (given_to n packet s) ≡ frames_given_to d s
given-no n d packet s t = given-frames n d packet s
    ∙ ap (λ (b : Bool). frames_given_to d s ++ cond b (cond (n == d) (frame_bytes packet ∷ []) []) []) t ∙ append-nil (frames_given_to d s)

keep : (n d : ℕ) (change : RelayConnection → RelayConnection) → ((k : RelayConnection) → (change k).number ≡ k.number)
    → ((k : RelayConnection) → (change k).produced ≡ k.produced) → (s : RelayState)
    → frames_given_to d (at_connection n change s) ≡ frames_given_to d s
keep n d change same produced s = change-keeps frames_given n d change same (λ k. ap (λ fs. map bytes_of fs) (produced k)) s

request-connections : (c d : ℕ) (h : AmsHeader) (s : RelayState) → (with_request_of c d h s).connections ≡ s.connections
request-connections c d h s = elim (cases_Bool (h.command == DEVICE_NOTIFICATION)) [ inl t ↦ rw t refl | inr t ↦ rw t refl ]

-- a connection is given what the fate of a frame tells
abbrev Gives : ℕ → Passage → RelayState → RelayOutcome → Type 0
Gives d p s o = frames_given_to d o.after ≡ frames_given_to d s ++ frames_by_fate d p o.fate

-- what tells the sender of a frame that its target is not found
told : (d : ℕ) (h : AmsHeader) (p : Passage) (b : Bool) → header_of p.packet ≡ Some h
    → cond b (cond (p.sender == d) (frame_bytes (not_found_packet h) ∷ []) []) [] ≡ cond b (cond (p.sender == d) (told_frames (header_of p.packet)) []) []
told d h p b e = ap (λ (o : Option AmsHeader). cond b (cond (p.sender == d) (told_frames o) []) []) (sym e)

unknown-frames : (d : ℕ) (h : AmsHeader) (p : Passage) (s : RelayState) → header_of p.packet ≡ Some h → Gives d p s (outcome_of_unknown p.sender h s)
unknown-frames d h p s e = elim (cases_Bool (h.command == DEVICE_NOTIFICATION)) [
  | inl t ↦ rw t (sym (append-nil (frames_given_to d s)))
  | inr t ↦
      let b = has_room (framed (not_found_packet h)) (connection_of p.sender s.connections) in
      rw t (given-frames p.sender d (not_found_packet h) (record s { world = record s.world { unknown = _ } })
      ∙ ap (λ (l : List (List ℕ)). frames_given_to d s ++ l) (told d h p b e))
]

response-frames : (d : ℕ) (h : AmsHeader) (p : Passage) (s : RelayState) (o : Option Request) → Gives d p s (outcome_of_response p.sender h p.packet s o)
unfolding outcome_of_response
response-frames d h p s None = sym (append-nil (frames_given_to d s))
response-frames d h p s (Some r) = elim (cases_Bool (has_room (framed p.packet) (connection_of r.asker s.connections))) [
  | inl t ↦ rw t (given-yes r.asker d p.packet (record s { world = record s.world { requests = _ } }) t)
  | inr t ↦ rw t (given-no r.asker d p.packet (record s { world = record s.world { requests = _ } }) t ∙ sym (append-nil (frames_given_to d s)))
]

request-frames : (d : ℕ) (h : AmsHeader) (p : Passage) (s : RelayState) → header_of p.packet ≡ Some h → (o : Option RelayConnection)
    → Gives d p s (outcome_of_request p.sender h p.packet s o)
unfolding outcome_of_request
request-frames d h p s e None = unknown-frames d h p s e
request-frames d h p s e (Some k) =
    let u = given_to k.number p.packet s in
    elim (cases_Bool (has_room (framed p.packet) (connection_of k.number s.connections))) [
      | inl t ↦ rw t (ap (λ ks. frames_given (connection_of d ks)) (request-connections p.sender k.number h u) ∙ given-yes k.number d p.packet s t)
      | inr t ↦ rw t (unknown-frames d h p u e
          ∙ ap (λ (l : List (List ℕ)). l ++ frames_by_fate d p (outcome_of_unknown p.sender h u).fate) (given-no k.number d p.packet s t))
    ]

owned-frames : (d : ℕ) (h : AmsHeader) (p : Passage) (s : RelayState) → header_of p.packet ≡ Some h → Gives d p s (outcome_of_owned p.sender h p.packet s)
owned-frames d h p s e = elim (cases_Bool (h.flags % 2 == 1)) [
  | inl t ↦ rw t (response-frames d h p s (request_answered p.sender h s.world.requests))
  | inr t ↦ rw t (request-frames d h p s e (owner_of h.target.net s.connections))
]

header-frames : (d : ℕ) (p : Passage) (k : RelayConnection) (s : RelayState) (o : Option AmsHeader) → header_of p.packet ≡ o
    → Gives d p s (outcome_by_header p.sender p.packet k s o)
header-frames d p k s None e = sym (append-nil (frames_given_to d s))
header-frames d p k s (Some h) e = elim (cases_Bool (is_closed_by (payload_of p.packet) h k s)) [
  | inl t ↦ rw t (keep p.sender d with_closing (λ k. refl) (λ k. refl) s ∙ sym (append-nil (frames_given_to d s)))
  | inr t ↦
      let owned = with_owner p.sender h.source.net s in
      rw t (owned-frames d h p owned e
      ∙ ap (λ (l : List (List ℕ)). l ++ frames_by_fate d p (outcome_of_owned p.sender h p.packet owned).fate)
      (keep p.sender d (with_client (Some h.source.net)) (λ k. refl) (λ k. refl) s))
]

frame-frames : (c d : ℕ) (packet : List ℕ) (s : RelayState)
    → frames_given_to d (after_frame c packet s) ≡ frames_given_to d s ++ all_frames_to d (passages_of_frame c packet s)
unfolding after_frame passages_of_frame
frame-frames c d packet s = go (connection_of c s.connections)
  where
    go : (o : Option RelayConnection)
        → frames_given_to d (after_frame_of c packet s o) ≡ frames_given_to d s ++ all_frames_to d (passages_of_frame_at c packet s o)
    go None = sym (append-nil (frames_given_to d s))
    go (Some k) = elim (cases_Bool k.closing) [
      | inl t ↦ rw t (sym (append-nil (frames_given_to d s)))
      | inr t ↦
          let p : Passage = record { sender = c; packet = packet; fate = (outcome_of_frame c packet k s).fate } in
          rw t (header-frames d p k (with_frame_taken c s) (header_of packet) refl
          ∙ ap (λ (l : List (List ℕ)). l ++ frames_to d p) (keep c d with_one_taken (λ k. refl) (λ k. refl) s)
          ∙ ap (λ (l : List (List ℕ)). frames_given_to d s ++ l) (sym (append-nil (frames_to d p))))
    ]

frames-frames : (c d : ℕ) (packets : List (List ℕ)) (s : RelayState)
    → frames_given_to d (after_frames c packets s) ≡ frames_given_to d s ++ all_frames_to d (passages_of_frames c packets s)
unfolding after_frames passages_of_frames
frames-frames c d [] s = sym (append-nil (frames_given_to d s))
frames-frames c d (packet ∷ packets) s =
    let u = after_frame c packet s in
    let first = passages_of_frame c packet s in
    let others = passages_of_frames c packets u in
    frames-frames c d packets u ∙ ap (λ (l : List (List ℕ)). l ++ all_frames_to d others) (frame-frames c d packet s)
    ∙ append_assoc (frames_given_to d s) (all_frames_to d first) (all_frames_to d others)
    ∙ ap (λ (l : List (List ℕ)). frames_given_to d s ++ l) (sym (flat_map-append (frames_to d) first others))

after_rest-kept : (k : RelayConnection) → ((after_rest k).number ≡ k.number) × ((after_rest k).produced ≡ k.produced)
after_rest-kept k = elim (cases_Bool (is_broken (front_of (rest_of k.received)))) [ inl t ↦ rw t (refl, refl) | inr t ↦ rw t (refl, refl) ]

pub event-frames : (d : ℕ) (e : Event) (s : RelayState)
    → frames_given_to d (relay_after_event s e) ≡ frames_given_to d s ++ all_frames_to d (passages_of_event s e)
unfolding relay_after_event
event-frames d (event.Opened n) s = opened-keeps frames_given d s.connections (fresh_connection None n) refl ∙ sym (append-nil (frames_given_to d s))
event-frames d (event.Piece n piece) s = go (connection_of n s.connections)
  where
    go : (o : Option RelayConnection) → frames_given_to d (after_piece_of n piece s o) ≡ frames_given_to d s ++ all_frames_to d (passages_of_piece n piece s o)
    go None = sym (append-nil (frames_given_to d s))
    go (Some k) = elim (cases_Bool (is_deaf k)) [
      | inl t ↦ rw t (sym (append-nil (frames_given_to d s)))
      | inr t ↦
          let packets = packets_left (with_received piece k) in
          let u = at_connection n (with_received piece) s in
          rw t (keep n d after_rest (λ k. (after_rest-kept k).0) (λ k. (after_rest-kept k).1) (after_frames n packets u) ∙ frames-frames n d packets u
          ∙ ap (λ (l : List (List ℕ)). l ++ all_frames_to d (passages_of_frames n packets u)) (keep n d (with_received piece) (λ k. refl) (λ k. refl) s))
    ]
event-frames d (event.Closed n) s = exchange-keeps frames_given n d with_gone with_gone-number (λ x. refl) s ∙ sym (append-nil (frames_given_to d s))
event-frames d (event.Tick t) s = sym (append-nil (frames_given_to d s))
event-frames d (event.Reload text) s = sym (append-nil (frames_given_to d s))
event-frames d (event.Writable n) s = sym (append-nil (frames_given_to d s))

took-produced : (n : ℕ) (x : Exchange RelayWorld Owned) → (with_took n x).connection.produced ≡ x.connection.produced
took-produced n x = elim (cases_Bool x.connection.gone) [ inl t ↦ rw t refl | inr t ↦ rw t refl ]

move-frames : (d : ℕ) (m : Move) (s : RelayState)
    → frames_given_to d (state_after_move relay_after_event s m) ≡ frames_given_to d s ++ all_frames_to d (passages_of_move s m)
unfolding state_after_move
move-frames d (move.Event e) s = event-frames d e s
move-frames d (move.Took n offered bytes) s =
    exchange-keeps frames_given n d (with_took (length bytes)) (with_took-number (length bytes))
    (λ x. ap (λ fs. map bytes_of fs) (took-produced (length bytes) x)) s ∙ sym (append-nil (frames_given_to d s))
move-frames d (move.Lost n) s = exchange-keeps frames_given n d with_gone with_gone-number (λ x. refl) s ∙ sym (append-nil (frames_given_to d s))
move-frames d (move.Shut n) s = exchange-keeps frames_given n d with_gone with_gone-number (λ x. refl) s ∙ sym (append-nil (frames_given_to d s))

log-frames : (d : ℕ) (log : List Move) (s : RelayState)
    → frames_given_to d (state_after relay_after_event s log) ≡ frames_given_to d s ++ all_frames_to d (passages_of s log)
unfolding state_after passages_of
log-frames d [] s = sym (append-nil (frames_given_to d s))
log-frames d (m ∷ ms) s =
    let u = state_after_move relay_after_event s m in
    log-frames d ms u ∙ ap (λ (l : List (List ℕ)). l ++ all_frames_to d (passages_of u ms)) (move-frames d m s)
    ∙ append_assoc (frames_given_to d s) (all_frames_to d (passages_of_move s m)) (all_frames_to d (passages_of u ms))
    ∙ ap (λ (l : List (List ℕ)). frames_given_to d s ++ l) (sym (flat_map-append (frames_to d) (passages_of_move s m) (passages_of u ms)))

pub gives_passages : GivesPassages
unfolding connection_of
gives_passages description d log = log-frames d log (relay_start description)
