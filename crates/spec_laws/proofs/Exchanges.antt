-- What the packets of a connection do in two worlds that agree on what is read; and what those of another leave.
use Rattle.std.proofs.Common.{◌≡◌, ℕ, List, [], ◌∷◌, map, Bool, true, false, cond, refl, sym, ◌∙◌, ap, subst, inl, inr}
use Rattle.std.specs.Prelude.{filter, not, ◌==◌, Option, Some, None}
use Rattle.std.proofs.lemmas.Bool.{cases_Bool}
use Rattle.std.proofs.lemmas.List.Concat.{flat_map-append}
use Rattle.spec_frames.specs.Frame.{frame_bytes}
use Rattle.spec_frames.specs.Division.{front_of, rest_of, is_broken}
use Rattle.spec_plant.specs.World.{ByteName, Block}
use Rattle.spec_formats.specs.Codes.{no_error}
use Rattle.spec_formats.specs.Header.{AmsHeader, header_of}
use Rattle.spec_machine.specs.Device.{Device, Answer, Answered, Silent, Closing, Produced, Reply}
use Rattle.spec_machine.specs.Connection.{Connection, is_deaf, fits, with_closing, with_frame, produce, produce_all}
use Rattle.spec_machine.specs.MachineState.{Exchange}
use Rattle.spec_machine.specs.Piece.{with_received, packets_left, with_one_taken, with_client, after_answer}
use Rattle.spec_machine.specs.Piece.{after_outcome, after_packet, after_packets, after_rest, with_piece}
use Rattle.spec_machine.specs.Piece.{end_of_piece, after_piece}
use Rattle.spec_machine.specs.World.{World, setup_of}
use Rattle.spec_machine.specs.Access.{Addressed, addressed_name}
use Rattle.spec_machine.specs.Watches.{Watch}
use Rattle.spec_machine.specs.Client.{Client, Effect, NoEffect, Grants, Releases, Adds, Deletes, client_after}
use Rattle.spec_machine.specs.Acts.{Act, Refusal, Allowed, effect_of, added_reads, reads_of_act, writes_of_act}
use Rattle.spec_machine.specs.Acts.{reads_of_acts, writes_of_acts, memory_after_acts, client_after_acts}
use Rattle.spec_machine.specs.Decisions.{Decision, NoAnswer, EndConnection, AmsError, Perform, acts_in}
use Rattle.spec_machine.specs.Packets.{decide}
use Rattle.spec_machine.specs.Replies.{reply_payload, outcome_in_all, response_packet, answer_to, answer_of, performed}
use Rattle.spec_machine.specs.AdsDevice.{DescriptionReading, ads_device}
use Rattle.spec_machine.specs.Projection.{acts_of_packet, acts_of_packets, acts_of_piece}
use Rattle.spec_laws.proofs.Memory.{Agree}
use Rattle.spec_laws.proofs.Footprints.{Each, each_left, each_right, each_both, Not, outcomes-agree, acts-agree, acts-outside}

-- the names of a notification are of R
abbrev pub WatchIn : (ByteName → Type 0) → Watch (List Addressed) → Type 0
WatchIn R w = Each R (map addressed_name w.watched)

-- all notifications of a client are over names of R
abbrev pub WatchesIn : (ByteName → Type 0) → Client → Type 0
WatchesIn R c = Each (WatchIn R) c.watches

pub each_filter : {X : Type 0} (P : X → Type 0) (test : X → Bool) (xs : List X) → Each P xs → Each P (filter test xs)
each_filter P test [] e = tt
each_filter P test (x ∷ xs) e =
    elim (cases_Bool (test x)) [
      | inl t ↦ rw t (e.0, each_filter P test xs (e.1))
      | inr t ↦ rw t (each_filter P test xs (e.1))
    ]

effect-watches : (R : ByteName → Type 0) (c : Client) (x : Effect) → WatchesIn R c
    → Each R (map addressed_name (added_reads x)) → WatchesIn R (client_after c x)
unfolding client_after
effect-watches R c NoEffect w e = w
effect-watches R c (Grants port place) w e = w
effect-watches R c (Releases handle) w e = w
effect-watches R c (Adds n) w e = each_both (WatchIn R) c.watches (n ∷ []) w (e, tt)
effect-watches R c (Deletes handle) w e = each_filter (WatchIn R) (λ (v : Watch (List Addressed)). not (v.handle == handle)) c.watches w

act-watches : (R : ByteName → Type 0) (c : Client) (a : Act) → WatchesIn R c → Each R (reads_of_act a) → WatchesIn R (client_after c (effect_of a))
act-watches R c (Refusal code) w e = effect-watches R c NoEffect w tt
act-watches R c (Allowed a) w e = effect-watches R c a.effect w (each_right R (map addressed_name a.reads) (map addressed_name (added_reads a.effect)) e)

acts-watches : (R : ByteName → Type 0) (acts : List Act) (c : Client) → WatchesIn R c → Each R (reads_of_acts acts) → WatchesIn R (client_after_acts c acts)
unfolding client_after_acts
acts-watches R [] c w e = w
acts-watches R (a ∷ rest) c w e =
    acts-watches R rest (client_after c (effect_of a)) (act-watches R c a w (each_left R (reads_of_act a) (reads_of_acts rest) e))
    (each_right R (reads_of_act a) (reads_of_acts rest) e)

-- what is produced leaves the client
produce-client : (f : Produced) (k : Connection Client) → (produce f k).client ≡ k.client
unfolding produce
produce-client f k =
    client_cond k.closing k _ k.client refl (client_cond (fits f k) (with_frame f k) (with_closing k) k.client refl refl)
  where
    client_cond : (b : Bool) (x y : Connection Client) (c : Client) → x.client ≡ c → y.client ≡ c → (cond b x y).client ≡ c
    client_cond true x y c p q = p
    client_cond false x y c p q = q

pub produce_all-client : (fs : List Produced) (k : Connection Client) → (produce_all fs k).client ≡ k.client
unfolding produce_all
produce_all-client [] k = refl
produce_all-client (f ∷ fs) k = produce_all-client fs (produce f k) ∙ produce-client f k

pub answer-client : (a : Answer) (k : Connection Client) → (after_answer a k).client ≡ k.client
answer-client (Answered packet) k = produce-client (Reply (frame_bytes packet)) k
answer-client Silent k = refl
answer-client Closing k = refl

-- a world with other bytes
abbrev pub with_memory : List Block → World → World
with_memory m w = record w { memory = m }

answer-agree : (R : ByteName → Type 0) (h : AmsHeader) (x : Decision) (m w : List Block)
    → Agree R m w → Each R (reads_of_acts (acts_in x)) → answer_to h x m ≡ answer_to h x w
answer-agree R h NoAnswer m w g e = refl
answer-agree R h EndConnection m w g e = refl
answer-agree R h (AmsError code) m w g e = refl
answer-agree R h (Perform acts form) m w g e =
    ap (λ os. Answered (response_packet h no_error (reply_payload h.command (outcome_in_all form os)))) (outcomes-agree R acts m w e g)

answered-agree : (R : ByteName → Type 0) (o : Option AmsHeader) (x : Decision) (m w : List Block)
    → Agree R m w → Each R (reads_of_acts (acts_in x)) → answer_of o x m ≡ answer_of o x w
answered-agree R None x m w g e = refl
answered-agree R (Some h) x m w g e = answer-agree R h x m w g e

-- two exchanges with one connection, whose worlds differ only in bytes that are not of R
pub record Same (R : ByteName → Type 0) (x y : Exchange World Client) : Type 0 where
  pub connection : x.connection ≡ y.connection
  pub world : y.world ≡ with_memory y.world.memory x.world
  pub memory : Agree R x.world.memory y.world.memory
  pub watches : WatchesIn R x.connection.client

-- the same connection over other bytes
abbrev pub over : List Block → Exchange World Client → Exchange World Client
over m x = record x { world = with_memory m x.world }

performed-same : (R : ByteName → Type 0) (p : List ℕ) (x : Decision) (w : World) (m : List Block) (k : Connection Client)
    → Agree R w.memory m → WatchesIn R k.client → Each R (reads_of_acts (acts_in x))
    → Same R (after_outcome (performed x p w k.client) k) (after_outcome (performed x p (with_memory m w) k.client) k)
unfolding performed
performed-same R p x w m k g i e =
    let l : Connection Client = with_client (client_after_acts k.client (acts_in x)) (with_one_taken k) in
    record {
      connection = ap (λ a. after_answer a l) (answered-agree R (header_of p) x w.memory m g e);
      world = refl;
      memory = acts-agree R (acts_in x) w.memory m g;
      watches = subst (WatchesIn R) (sym (answer-client (answer_of (header_of p) x w.memory) l)) (acts-watches R (acts_in x) k.client i e);
    }

packet-same : (reading : DescriptionReading) (R : ByteName → Type 0) (p : List ℕ) (x : Exchange World Client) (m : List Block)
    → Agree R x.world.memory m → WatchesIn R x.connection.client
    → Each R (reads_of_acts (acts_of_packet p x)) → Same R (after_packet (ads_device reading) p x) (after_packet (ads_device reading) p (over m x))
unfolding after_packet
packet-same reading R p x m g i e = go x.connection.closing e
  where
    decision : Decision
    decision = decide (setup_of x.world) x.connection.client p

    go : (b : Bool) → Each R (reads_of_acts (cond b [] (acts_in decision)))
        → Same R (cond b x (after_outcome (performed decision p x.world x.connection.client) x.connection))
        (cond b (over m x) (after_outcome (performed decision p (with_memory m x.world) x.connection.client) x.connection))
    go true e = record { connection = refl; world = refl; memory = g; watches = i }
    go false e = performed-same R p decision x.world m x.connection g i e

-- the second of two such exchanges is the first over its bytes
is_over : (R : ByteName → Type 0) (x y : Exchange World Client) → Same R x y → over y.world.memory x ≡ y
is_over R x y s = let e : World → Connection Client → Exchange World Client = λ w k. record { world = w; connection = k } in
    ap (λ k. e (with_memory y.world.memory x.world) k) s.connection ∙ ap (λ w. e w y.connection) (sym s.world)

same_then : (R : ByteName → Type 0) (x y z : Exchange World Client) → Same R x y → y ≡ z → Same R x z
same_then R x y z s e = subst (Same R x) e s

packets-same : (reading : DescriptionReading) (R : ByteName → Type 0) (ps : List (List ℕ)) (x y : Exchange World Client)
    → Same R x y → Each R (reads_of_acts (acts_of_packets reading ps x))
    → Same R (after_packets (ads_device reading) ps x) (after_packets (ads_device reading) ps y)
unfolding after_packets acts_of_packets
packets-same reading R [] x y s e = s
packets-same reading R (p ∷ ps) x y s e =
    let device = ads_device reading in
    let here = acts_of_packet p x in
    let later = acts_of_packets reading ps (after_packet device p x) in
    let f = rw (flat_map-append reads_of_act here later) at e in
    let left = each_left R (reads_of_acts here) (reads_of_acts later) f in
    let right = each_right R (reads_of_acts here) (reads_of_acts later) f in
    let step = packet-same reading R p x y.world.memory s.memory s.watches left in
    packets-same reading R ps (after_packet device p x) (after_packet device p y)
    (same_then R (after_packet device p x) (after_packet device p (over y.world.memory x))
    (after_packet device p y) step (ap (after_packet device p) (is_over R x y s))) right

pub rest-client : (k : Connection Client) → (after_rest k).client ≡ k.client
rest-client k = elim (cases_Bool (is_broken (front_of (rest_of k.received)))) [ inl b ↦ rw b refl | inr b ↦ rw b refl ]

end-same : (R : ByteName → Type 0) (x y : Exchange World Client) → Same R x y → Same R (end_of_piece x) (end_of_piece y)
end-same R x y s = record {
  connection = ap after_rest s.connection;
  world = s.world;
  memory = s.memory;
  watches = subst (WatchesIn R) (sym (rest-client x.connection)) s.watches;
}

pub piece-same : (reading : DescriptionReading) (R : ByteName → Type 0) (bytes : List ℕ) (x : Exchange World Client) (m : List Block)
    → Agree R x.world.memory m → WatchesIn R x.connection.client
    → Each R (reads_of_acts (acts_of_piece reading bytes x))
    → Same R (after_piece (ads_device reading) bytes x) (after_piece (ads_device reading) bytes (over m x))
unfolding after_piece
piece-same reading R bytes x m g i e = go (is_deaf x.connection) e
  where
    device : Device World Client
    device = ads_device reading

    ps : List (List ℕ)
    ps = packets_left (with_received bytes x.connection)

    go : (b : Bool) → Each R (reads_of_acts (cond b [] (acts_of_packets reading ps (with_piece bytes x))))
        → Same R (cond b x (end_of_piece (after_packets device ps (with_piece bytes x))))
        (cond b (over m x) (end_of_piece (after_packets device ps (with_piece bytes (over m x)))))
    go true e = record { connection = refl; world = refl; memory = g; watches = i }
    go false e = end-same R (after_packets device ps (with_piece bytes x)) (after_packets device ps (with_piece bytes (over m x)))
        (packets-same reading R ps (with_piece bytes x) (with_piece bytes (over m x)) (record { connection = refl; world = refl; memory = g; watches = i }) e)

-- the packets of another connection: the world keeps all but bytes that are not of R

pub record Passes (R : ByteName → Type 0) (w v : World) (m : List Block) : Type 0 where
  pub world : v ≡ with_memory v.memory w
  pub memory : Agree R v.memory m

packet-outside : (reading : DescriptionReading) (R : ByteName → Type 0) (p : List ℕ) (x : Exchange World Client) (w : World) (m : List Block)
    → Passes R w x.world m
    → Each (Not R) (writes_of_acts (acts_of_packet p x)) → Passes R w (after_packet (ads_device reading) p x).world m
unfolding after_packet performed
packet-outside reading R p x w m g e = go x.connection.closing e
  where
    decision : Decision
    decision = decide (setup_of x.world) x.connection.client p

    go : (b : Bool) → Each (Not R) (writes_of_acts (cond b [] (acts_in decision)))
        → Passes R w (cond b x (after_outcome (performed decision p x.world x.connection.client) x.connection)).world m
    go true e = g
    go false e = record {
      world = ap (with_memory (memory_after_acts x.world.memory (acts_in decision))) g.world;
      memory = acts-outside R (acts_in decision) x.world.memory m e g.memory;
    }

packets-outside : (reading : DescriptionReading) (R : ByteName → Type 0) (ps : List (List ℕ)) (x : Exchange World Client) (w : World) (m : List Block)
    → Passes R w x.world m
    → Each (Not R) (writes_of_acts (acts_of_packets reading ps x)) → Passes R w (after_packets (ads_device reading) ps x).world m
unfolding after_packets acts_of_packets
packets-outside reading R [] x w m g e = g
packets-outside reading R (p ∷ ps) x w m g e =
    let device = ads_device reading in
    let here = acts_of_packet p x in
    let later = acts_of_packets reading ps (after_packet device p x) in
    let f = rw (flat_map-append writes_of_act here later) at e in
    let left = each_left (Not R) (writes_of_acts here) (writes_of_acts later) f in
    let right = each_right (Not R) (writes_of_acts here) (writes_of_acts later) f in
    packets-outside reading R ps (after_packet device p x) w m (packet-outside reading R p x w m g left) right

pub piece-outside : (reading : DescriptionReading) (R : ByteName → Type 0) (bytes : List ℕ) (x : Exchange World Client) (m : List Block)
    → Agree R x.world.memory m
    → Each (Not R) (writes_of_acts (acts_of_piece reading bytes x)) → Passes R x.world (after_piece (ads_device reading) bytes x).world m
unfolding after_piece
piece-outside reading R bytes x m g e = go (is_deaf x.connection) e
  where
    device : Device World Client
    device = ads_device reading

    ps : List (List ℕ)
    ps = packets_left (with_received bytes x.connection)

    go : (b : Bool) → Each (Not R) (writes_of_acts (cond b [] (acts_of_packets reading ps (with_piece bytes x))))
        → Passes R x.world (cond b x (end_of_piece (after_packets device ps (with_piece bytes x)))).world m
    go true e = record { world = refl; memory = g }
    go false e = packets-outside reading R ps (with_piece bytes x) x.world m (record { world = refl; memory = g }) e
