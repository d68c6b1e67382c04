-- The requests that responses answer are, each once, among those that were passed on.
use Rattle.std.proofs.Common.{◌≡◌, ℕ, ◌+◌, ◌≤◌, List, [], ◌∷◌, ◌++◌, length, Bool, true, cond, refl, sym, ◌∙◌, ap, inl, inr, arith}
use Rattle.std.specs.Prelude.{Option, Some, None, filter, find, count_by, ◌==◌, ◌%◌, ◌&&◌, nat_lt}
use Rattle.std.proofs.lemmas.Bool.{cases_Bool, and_parts, eqb-true}
use Rattle.std.proofs.lemmas.Grind.{flat_map-append}
use Rattle.std.proofs.lemmas.List.Sums.{sum_by-append}
use Rattle.std.proofs.lemmas.Slice.Eq.{bytes_eq-Decides}
use Rattle.ads_outside.specs.declared.event.Event.{Event}
use Rattle.ads_outside.specs.declared.event.Event.TheVariants as event
use Rattle.ads_outside.specs.declared.moves.Move.{Move}
use Rattle.ads_outside.specs.declared.moves.Move.TheVariants as move
use Rattle.spec_formats.specs.Header.{AmsAddress, AmsHeader, is_same_address, header_of, payload_of}
use Rattle.spec_formats.specs.Commands.{DEVICE_NOTIFICATION}
use Rattle.spec_machine.specs.Connection.{connection_of, is_deaf, with_closing}
use Rattle.spec_machine.specs.Piece.{with_received, packets_left, with_one_taken, with_client, after_rest}
use Rattle.spec_machine.specs.Moves.{with_gone, with_took}
use Rattle.spec_machine.specs.MachineState.{Exchange}
use Rattle.spec_relay.specs.RelayState.{Request, RelayWorld, Owned, RelayConnection, RelayState, relay_start, owner_of, is_heard_among}
use Rattle.spec_relay.specs.Requests.{is_answered_by, request_answered, without_first, is_asked_by, with_request, MAX_REQUESTS}
use Rattle.spec_relay.specs.Checks.{is_closed_by}
use Rattle.spec_relay.specs.Routing.{RelayOutcome, framed, has_room, delivered, at_connection, given_to, with_unknown, not_found_packet}
use Rattle.spec_relay.specs.Routing.{request_from, with_request_of, with_owner, with_frame_taken, after_frame_of, after_frame}
use Rattle.spec_relay.specs.Routing.{outcome_of_unknown, outcome_of_response, outcome_of_request, outcome_of_owned}
use Rattle.spec_relay.specs.Routing.{outcome_by_header, outcome_of_frame}
use Rattle.spec_relay.specs.RelayMoves.{after_frames, after_piece_of, relay_after_event}
use Rattle.spec_machine.specs.Moves.{state_after_move, state_after}
use Rattle.spec_relay.specs.Passages.{Passage, passages_of_frame_at, passages_of_frame, passages_of_frames}
use Rattle.spec_relay.specs.Passages.{passages_of_piece, passages_of_event, passages_of_move, passages_of}
use Rattle.spec_relay.specs.PassedOn.{asked_by_header, asked_in, request_to, answered_by_header, answered_in, all_asked, all_answered}
use Rattle.spec_relay.specs.RelayLaws.{AnswersEachOnce}
use Rattle.spec_relay.proofs.ChangeLemmas.{world-exchange, world-change}

-- how many requests of a list pass a test
count-append : (test : Request → Bool) (xs ys : List Request) → count_by test (xs ++ ys) ≡ count_by test xs + count_by test ys
count-append test xs ys = sum_by-append (λ x. cond (test x) 1 0) xs ys

-- one more
count-cons : (test : Request → Bool) (r : Request) (rs : List Request) → count_by test (r ∷ rs) ≡ count_by test (r ∷ []) + count_by test rs
count-cons test r rs = count-append test (r ∷ []) rs

count-filter : (test keep : Request → Bool) (rs : List Request) → count_by test (filter keep rs) ≤ count_by test rs
count-filter test keep [] = omega arith
count-filter test keep (r ∷ rs) = elim (cases_Bool (keep r)) [
  | inl t ↦ rw t (omega (arith, count-cons test r rs, count-cons test r (filter keep rs), count-filter test keep rs))
  | inr t ↦ rw t (omega (arith, count-cons test r rs, count-filter test keep rs))
]

count-without : (test first : Request → Bool) (rs : List Request) → count_by test (without_first first rs) ≤ count_by test rs
unfolding without_first
count-without test first [] = omega arith
count-without test first (r ∷ rs) = elim (cases_Bool (first r)) [
  | inl t ↦ rw t (omega (arith, count-cons test r rs))
  | inr t ↦ rw t (omega (arith, count-cons test r rs, count-cons test r (without_first first rs), count-without test first rs))
]

-- without the one that is found there is one less
count-spent : (test first : Request → Bool) (rs : List Request) (r : Request) → find first rs ≡ Some r
    → count_by test (without_first first rs) + count_by test (r ∷ []) ≤ count_by test rs
unfolding without_first
count-spent test first [] r e = absurd (let x : None ≡ Some r = e in cc)
count-spent test first (x ∷ rs) r e = elim (cases_Bool (first x)) [
  | inl t ↦
      let f : Some x ≡ Some r = rw t at e in
      let same : x ≡ r = cc in
      let one : count_by test (x ∷ []) ≡ count_by test (r ∷ []) = ap (λ y. count_by test (y ∷ [])) same in
      rw t (omega (arith, one, count-cons test x rs))
  | inr t ↦ rw t (omega (arith, count-cons test x rs, count-cons test x (without_first first rs), count-spent test first rs r (rw t at e)))
]

count-with : (test : Request → Bool) (new : Request) (rs : List Request) → count_by test (with_request new rs) ≤ count_by test rs + count_by test (new ∷ [])
count-with test new rs = elim (cases_Bool (nat_lt (length (filter (is_asked_by new.asker) rs)) MAX_REQUESTS)) [
  | inl t ↦ rw t (omega (arith, count-append test rs (new ∷ [])))
  | inr t ↦
      let first = without_first (is_asked_by new.asker) rs in
      rw t (omega (arith, count-append test first (new ∷ []), count-without test (is_asked_by new.asker) rs))
]

find-passes : (first : Request → Bool) (rs : List Request) (r : Request) → find first rs ≡ Some r → first r ≡ true
find-passes first [] r e = absurd (let x : None ≡ Some r = e in cc)
find-passes first (x ∷ rs) r e = elim (cases_Bool (first x)) [
  | inl t ↦ let f : Some x ≡ Some r = rw t at e in let same : x ≡ r = cc in ap first (sym same) ∙ t
  | inr t ↦ find-passes first rs r (rw t at e)
]

-- an address and a request, field by field
abbrev address_itself : AmsAddress → AmsAddress
address_itself a = record { net = a.net; port = a.port }

abbrev request_itself : Request → Request
request_itself r = record {
  asker = r.asker;
  asked = r.asked;
  source = r.source;
  target = r.target;
  command = r.command;
  id = r.id;
}

same_address : (a b : AmsAddress) → is_same_address a b ≡ true → a ≡ b
same_address a b h =
    let p = and_parts _ _ h in
    let d = bytes_eq-Decides a.net b.net in
    let net : a.net ≡ b.net = d.0 (p.0) in
    let port : a.port ≡ b.port = eqb-true a.port b.port (p.1) in
    let same : address_itself a ≡ address_itself b = cc in
    same

-- a request that a response answers is the one that it names
pub answered-is : (c : ℕ) (h : AmsHeader) (r : Request) → is_answered_by c h r ≡ true → request_to r.asker c h ≡ r
answered-is c h r e =
    let p = and_parts _ _ e in
    let q = and_parts _ _ (p.0) in
    let u = and_parts _ _ (q.0) in
    let v = and_parts _ _ (p.1) in
    let asked : r.asked ≡ c = eqb-true r.asked c (u.0) in
    let command : r.command ≡ h.command = eqb-true r.command h.command (u.1) in
    let id : r.id ≡ h.id = eqb-true r.id h.id (q.1) in
    let source : r.source ≡ h.target = same_address r.source h.target (v.0) in
    let target : r.target ≡ h.source = same_address r.target h.source (v.1) in
    let same : request_to r.asker c h ≡ request_itself r = cc in
    same

abbrev requests_of : RelayState → List Request
requests_of s = s.world.requests

-- what a part of a run does to the requests that are remembered
abbrev Spends : (Request → Bool) → List Request → List Request → List Request → List Request → Type 0
Spends test old new asked answered = count_by test answered + count_by test new ≤ count_by test old + count_by test asked

given-world : (c : ℕ) (packet : List ℕ) (s : RelayState) → requests_of (given_to c packet s) ≡ requests_of s
given-world c packet s = ap (λ (w : RelayWorld). w.requests) (world-change c (delivered (framed packet)) s)

-- so does one frame
abbrev SpendsBy : (Request → Bool) → Passage → RelayState → Option AmsHeader → RelayOutcome → Type 0
SpendsBy test p s head o = Spends test (requests_of s) (requests_of o.after) (asked_by_header p o.fate head) (answered_by_header p o.fate head)

unknown-spends : (test : Request → Bool) (h : AmsHeader) (p : Passage) (s : RelayState) → SpendsBy test p s (Some h) (outcome_of_unknown p.sender h s)
unknown-spends test h p s = elim (cases_Bool (h.command == DEVICE_NOTIFICATION)) [
  | inl t ↦ rw t (omega arith)
  | inr t ↦
      let e = ap (λ l. count_by test l) (given-world p.sender (not_found_packet h) (with_unknown s)) in
      rw t (omega (arith, e))
]

response-spends : (test : Request → Bool) (h : AmsHeader) (p : Passage) (s : RelayState) (o : Option Request)
    → request_answered p.sender h s.world.requests ≡ o → SpendsBy test p s (Some h) (outcome_of_response p.sender h p.packet s o)
unfolding outcome_of_response
response-spends test h p s None found = omega arith
response-spends test h p s (Some r) found =
    let spent : RelayState = record s { world = record s.world { requests = without_first (is_answered_by p.sender h) s.world.requests } } in
    let is = answered-is p.sender h r (find-passes (is_answered_by p.sender h) s.world.requests r found) in
    let one : count_by test (request_to r.asker p.sender h ∷ []) ≡ count_by test (r ∷ []) = ap (λ y. count_by test (y ∷ [])) is in
    let less = count-spent test (is_answered_by p.sender h) s.world.requests r found in
    let left = ap (λ l. count_by test l) (given-world r.asker p.packet spent) in
    elim (cases_Bool (has_room (framed p.packet) (connection_of r.asker s.connections))) [
      | inl t ↦ rw t (omega (arith, one, less, left))
      | inr t ↦ rw t (omega (arith, less, left))
    ]

request-spends : (test : Request → Bool) (h : AmsHeader) (p : Passage) (s : RelayState) (o : Option RelayConnection)
    → SpendsBy test p s (Some h) (outcome_of_request p.sender h p.packet s o)
unfolding outcome_of_request
request-spends test h p s None = unknown-spends test h p s
request-spends test h p s (Some k) =
    let u = given_to k.number p.packet s in
    let same = given-world k.number p.packet s in
    elim (cases_Bool (has_room (framed p.packet) (connection_of k.number s.connections))) [
      | inl t ↦ rw t (asks u same)
      | inr t ↦
          let e = ap (λ l. count_by test l) same in
          let g = unknown-spends test h p u in
          rw t (omega (arith, e, g))
    ]
  where
    asks : (u : RelayState) → requests_of u ≡ requests_of s
        → Spends test (requests_of s) (requests_of (with_request_of p.sender k.number h u))
        (cond (h.command == DEVICE_NOTIFICATION) [] (request_from p.sender k.number h ∷ [])) []
    asks u e = elim (cases_Bool (h.command == DEVICE_NOTIFICATION)) [
      | inl n ↦ let f = ap (λ l. count_by test l) e in rw n (omega (arith, f))
      | inr n ↦ let f = ap (λ l. count_by test l) e in rw n (omega (arith, f, count-with test (request_from p.sender k.number h) (requests_of u)))
    ]

owned-spends : (test : Request → Bool) (h : AmsHeader) (p : Passage) (s : RelayState) → SpendsBy test p s (Some h) (outcome_of_owned p.sender h p.packet s)
owned-spends test h p s = elim (cases_Bool (h.flags % 2 == 1)) [
  | inl t ↦ rw t (response-spends test h p s (request_answered p.sender h s.world.requests) refl)
  | inr t ↦ rw t (request-spends test h p s (owner_of h.target.net s.connections))
]

header-spends : (test : Request → Bool) (p : Passage) (k : RelayConnection) (s : RelayState) (o : Option AmsHeader)
    → SpendsBy test p s o (outcome_by_header p.sender p.packet k s o)
header-spends test p k s None = omega arith
header-spends test p k s (Some h) = elim (cases_Bool (is_closed_by (payload_of p.packet) h k s)) [
  | inl t ↦ let e = ap (λ (w : RelayWorld). count_by test w.requests) (world-change p.sender with_closing s) in rw t (omega (arith, e))
  | inr t ↦
      let owned = with_owner p.sender h.source.net s in
      let e = ap (λ (w : RelayWorld). count_by test w.requests) (world-change p.sender (with_client (Some h.source.net)) s) in
      let g = owned-spends test h p owned in
      rw t (omega (arith, e, g))
]

frame-spends : (test : Request → Bool) (c : ℕ) (packet : List ℕ) (s : RelayState)
    → Spends test (requests_of s) (requests_of (after_frame c packet s))
    (all_asked (passages_of_frame c packet s)) (all_answered (passages_of_frame c packet s))
unfolding after_frame passages_of_frame
frame-spends test c packet s = go (connection_of c s.connections)
  where
    go : (o : Option RelayConnection)
        → Spends test (requests_of s) (requests_of (after_frame_of c packet s o))
        (all_asked (passages_of_frame_at c packet s o)) (all_answered (passages_of_frame_at c packet s o))
    go None = omega arith
    go (Some k) = elim (cases_Bool k.closing) [
      | inl t ↦ rw t (omega arith)
      | inr t ↦
          let p : Passage = record { sender = c; packet = packet; fate = (outcome_of_frame c packet k s).fate } in
          let u = at_connection c with_one_taken s in
          let same = ap (λ (w : RelayWorld). count_by test w.requests) (world-change c with_one_taken s) in
          let fewer = count-filter test (λ (r : Request). is_heard_among r.asker u.connections && is_heard_among r.asked u.connections) (requests_of u) in
          let g = header-spends test p k (with_frame_taken c s) (header_of packet) in
          let asked = count-append test (asked_in p) [] in
          let answered = count-append test (answered_in p) [] in
          rw t (omega (arith, same, fewer, g, asked, answered))
    ]

-- one part of a run after another
spends-then : (test : Request → Bool) (old mid new : List Request) (ps qs : List Passage)
    → Spends test old mid (all_asked ps) (all_answered ps) → Spends test mid new (all_asked qs) (all_answered qs)
    → Spends test old new (all_asked (ps ++ qs)) (all_answered (ps ++ qs))
spends-then test old mid new ps qs first second =
    let asked = ap (λ l. count_by test l) (flat_map-append asked_in ps qs) ∙ count-append test (all_asked ps) (all_asked qs) in
    let answered = ap (λ l. count_by test l) (flat_map-append answered_in ps qs) ∙ count-append test (all_answered ps) (all_answered qs) in
    omega (arith, asked, answered, first, second)

frames-spend : (test : Request → Bool) (c : ℕ) (packets : List (List ℕ)) (s : RelayState)
    → Spends test (requests_of s) (requests_of (after_frames c packets s))
    (all_asked (passages_of_frames c packets s)) (all_answered (passages_of_frames c packets s))
unfolding after_frames passages_of_frames
frames-spend test c [] s = omega arith
frames-spend test c (packet ∷ packets) s =
    let u = after_frame c packet s in
    spends-then test (requests_of s) (requests_of u) (requests_of (after_frames c packets u)) (passages_of_frame c packet s)
    (passages_of_frames c packets u) (frame-spends test c packet s) (frames-spend test c packets u)

event-spends : (test : Request → Bool) (e : Event) (s : RelayState)
    → Spends test (requests_of s) (requests_of (relay_after_event s e)) (all_asked (passages_of_event s e)) (all_answered (passages_of_event s e))
unfolding relay_after_event
event-spends test (event.Opened n) s = omega arith
event-spends test (event.Piece n piece) s = go (connection_of n s.connections)
  where
    go : (o : Option RelayConnection)
        → Spends test (requests_of s) (requests_of (after_piece_of n piece s o))
        (all_asked (passages_of_piece n piece s o)) (all_answered (passages_of_piece n piece s o))
    go None = omega arith
    go (Some k) = elim (cases_Bool (is_deaf k)) [
      | inl t ↦ rw t (omega arith)
      | inr t ↦
          let packets = packets_left (with_received piece k) in
          let u = at_connection n (with_received piece) s in
          let v = after_frames n packets u in
          let before = ap (λ (w : RelayWorld). count_by test w.requests) (world-change n (with_received piece) s) in
          let after = ap (λ (w : RelayWorld). count_by test w.requests) (world-change n after_rest v) in
          rw t (omega (arith, before, after, frames-spend test n packets u))
    ]
event-spends test (event.Closed n) s = let e = ap (λ (w : RelayWorld). count_by test w.requests) (world-exchange n with_gone (λ x. refl) s) in omega (arith, e)
event-spends test (event.Tick t) s = omega arith
event-spends test (event.Reload text) s = omega arith
event-spends test (event.Writable n) s = omega arith

took-world : (n : ℕ) (x : Exchange RelayWorld Owned) → (with_took n x).world ≡ x.world
took-world n x = elim (cases_Bool x.connection.gone) [ inl t ↦ rw t refl | inr t ↦ rw t refl ]

move-spends : (test : Request → Bool) (m : Move) (s : RelayState)
    → Spends test (requests_of s) (requests_of (state_after_move relay_after_event s m))
    (all_asked (passages_of_move s m)) (all_answered (passages_of_move s m))
unfolding state_after_move
move-spends test (move.Event e) s = event-spends test e s
move-spends test (move.Took n offered bytes) s = let e =
    ap (λ (w : RelayWorld). count_by test w.requests) (world-exchange n (with_took (length bytes)) (took-world (length bytes)) s) in omega (arith, e)
move-spends test (move.Lost n) s = let e = ap (λ (w : RelayWorld). count_by test w.requests) (world-exchange n with_gone (λ x. refl) s) in omega (arith, e)
move-spends test (move.Shut n) s = let e = ap (λ (w : RelayWorld). count_by test w.requests) (world-exchange n with_gone (λ x. refl) s) in omega (arith, e)

log-spends : (test : Request → Bool) (log : List Move) (s : RelayState)
    → Spends test (requests_of s) (requests_of (state_after relay_after_event s log)) (all_asked (passages_of s log)) (all_answered (passages_of s log))
unfolding state_after passages_of
log-spends test [] s = omega arith
log-spends test (m ∷ ms) s =
    let u = state_after_move relay_after_event s m in
    spends-then test (requests_of s) (requests_of u) (requests_of (state_after relay_after_event u ms))
    (passages_of_move s m) (passages_of u ms) (move-spends test m s) (log-spends test ms u)

pub answers_each_once : AnswersEachOnce
answers_each_once description log test = let g = log-spends test log (relay_start description) in omega (arith, g)
