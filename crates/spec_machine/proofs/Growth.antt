-- A piece, a tick and a reload only add frames to a connection.
use Rattle.std.proofs.Common.{◌≡◌, ℕ, List, [], ◌∷◌, ◌++◌, Bool, true, false, cond, refl, sym, ◌∙◌, ap, inl, inr, append_assoc}
use Rattle.std.specs.Prelude.{◌⊎◌, ◌||◌}
use Rattle.std.proofs.lemmas.Bool.{cases_Bool}
use Rattle.std.proofs.lemmas.Grind.{flat_map-append}
use Rattle.std.proofs.lemmas.List.{append-nil}
use Rattle.spec_frames.specs.Division.{rest_of, front_of, is_broken}
use Rattle.spec_machine.specs.Device.{Device, Produced, Answer, Answered, Silent, Closing, FrameOutcome, ClientOutcome}
use Rattle.spec_machine.specs.Connection.{Connection, bytes_of, bytes_of_all, is_deaf, fits, with_closing, with_frame, produce, produce_all}
use Rattle.spec_machine.specs.MachineState.{Exchange}
use Rattle.spec_machine.specs.Piece.{with_received, packets_left, with_one_taken, with_client, after_answer}
use Rattle.spec_machine.specs.Piece.{after_outcome, after_packet, after_packets, after_rest, with_piece}
use Rattle.spec_machine.specs.Piece.{after_piece}
use Rattle.spec_machine.specs.Events.{after_client_outcome, connection_after_tick, connection_after_reload}

pub record Grows {C : Type 0} (k l : Connection C) : Type 0 where
  pub number : l.number ≡ k.number
  pub more : List Produced
  pub produced : l.produced ≡ k.produced ++ more
  pub bytes_taken : l.bytes_taken ≡ k.bytes_taken
  pub gone : l.gone ≡ k.gone

-- nothing is added
pub grows_none : {C : Type 0} (k l : Connection C) → l.number ≡ k.number → l.produced ≡ k.produced → l.bytes_taken ≡ k.bytes_taken → l.gone ≡ k.gone → Grows k l
grows_none k l n p t g = record { number = n; more = []; produced = p ∙ sym (append-nil k.produced); bytes_taken = t; gone = g }

pub grows_same : {C : Type 0} (k : Connection C) → Grows k k
grows_same k = grows_none k k refl refl refl refl

pub grows_then : {C : Type 0} (k l m : Connection C) → Grows k l → Grows l m → Grows k m
grows_then k l m p q = record {
  number = q.number ∙ p.number;
  more = p.more ++ q.more;
  produced = q.produced ∙ ap (λ fs. fs ++ q.more) p.produced ∙ append_assoc k.produced p.more q.more;
  bytes_taken = q.bytes_taken ∙ p.bytes_taken;
  gone = q.gone ∙ p.gone;
}

-- all bytes grow at their end
pub bytes_of_grown : {C : Type 0} (k l : Connection C) (x : Grows k l) → bytes_of_all l.produced ≡ bytes_of_all k.produced ++ bytes_of_all x.more
bytes_of_grown k l x = ap bytes_of_all x.produced ∙ flat_map-append bytes_of k.produced x.more

grows_cond : {C : Type 0} (k : Connection C) (b : Bool) (x y : Connection C) → Grows k x → Grows k y → Grows k (cond b x y)
grows_cond k true x y p q = p
grows_cond k false x y p q = q

grows_cond_exchange : {W C : Type 0} (k : Connection C) (b : Bool) (x y : Exchange W C)
    → Grows k x.connection → Grows k y.connection → Grows k (cond b x y).connection
grows_cond_exchange k true x y p q = p
grows_cond_exchange k false x y p q = q

not_gone : (closing gone : Bool) → (closing || gone) ≡ false → gone ≡ false
not_gone true gone e = cc
not_gone false gone e = e

pub produce-grows : {C : Type 0} (f : Produced) (k : Connection C) → Grows k (produce f k)
unfolding produce
produce-grows f k =
    grows_cond k k.closing k _ (grows_same k)
    (grows_cond k (fits f k) (with_frame f k) (with_closing k)
    (record { number = refl; more = f ∷ []; produced = refl; bytes_taken = refl; gone = refl }) (grows_none k (with_closing k) refl refl refl refl))

pub produce_all-grows : {C : Type 0} (fs : List Produced) (k : Connection C) → Grows k (produce_all fs k)
unfolding produce_all
produce_all-grows [] k = grows_same k
produce_all-grows (f ∷ fs) k = grows_then k (produce f k) _ (produce-grows f k) (produce_all-grows fs (produce f k))

after_answer-grows : {C : Type 0} (a : Answer) (k : Connection C) → Grows k (after_answer a k)
after_answer-grows (Answered packet) k = produce-grows _ k
after_answer-grows Silent k = grows_same k
after_answer-grows Closing k = grows_none k (with_closing k) refl refl refl refl

after_outcome-grows : {W C : Type 0} (o : FrameOutcome W C) (k : Connection C) → Grows k (after_outcome o k).connection
after_outcome-grows {W} {C} o k =
    let l : Connection C = with_client o.client (with_one_taken k) in
    grows_then k l _ (grows_none k l refl refl refl refl) (after_answer-grows o.answer l)

after_packet-grows : {W C : Type 0} (device : Device W C) (p : List ℕ) (x : Exchange W C) → Grows x.connection (after_packet device p x).connection
unfolding after_packet
after_packet-grows device p x =
    grows_cond_exchange x.connection x.connection.closing x _ (grows_same x.connection)
    (after_outcome-grows (device.take x.world x.connection.client p) x.connection)

after_packets-grows : {W C : Type 0} (device : Device W C) (ps : List (List ℕ)) (x : Exchange W C) → Grows x.connection (after_packets device ps x).connection
unfolding after_packets
after_packets-grows device [] x = grows_same x.connection
after_packets-grows device (p ∷ ps) x =
    grows_then x.connection (after_packet device p x).connection _ (after_packet-grows device p x) (after_packets-grows device ps (after_packet device p x))

after_rest-grows : {C : Type 0} (k : Connection C) → Grows k (after_rest k)
after_rest-grows k = grows_cond k (is_broken (front_of (rest_of k.received)))
    (with_closing k) k (grows_none k (with_closing k) refl refl refl refl) (grows_same k)

pub after_piece-grows : {W C : Type 0} (device : Device W C) (piece : List ℕ) (x : Exchange W C) → Grows x.connection (after_piece device piece x).connection
unfolding after_piece
after_piece-grows {W} {C} device piece x =
    elim (cases_Bool (is_deaf x.connection)) [
      | inl b ↦ rw b (grows_same x.connection)
      | inr b ↦
          let k : Connection C = with_received piece x.connection in
          let y : Exchange W C = after_packets device (packets_left k) (with_piece piece x) in
          rw b (grows_then x.connection k (after_rest y.connection) (grows_none x.connection k refl refl refl refl)
          (grows_then k y.connection (after_rest y.connection)
          (after_packets-grows device (packets_left k) (with_piece piece x)) (after_rest-grows y.connection)))
    ]

after_client_outcome-grows : {C : Type 0} (o : ClientOutcome C) (k : Connection C) → Grows k (after_client_outcome o k)
after_client_outcome-grows {C} o k =
    let l : Connection C = with_client o.client k in
    grows_then k l _ (grows_none k l refl refl refl refl) (produce_all-grows o.frames l)

pub connection_after_tick-grows : {W C : Type 0} (device : Device W C) (moment : ℕ) (world : W) (k : Connection C)
    → Grows k (connection_after_tick device moment world k)
unfolding connection_after_tick
connection_after_tick-grows device moment world k =
    grows_cond k (is_deaf k) k _ (grows_same k) (after_client_outcome-grows (device.client_after_tick moment world k.client) k)

pub connection_after_reload-grows : {W C : Type 0} (device : Device W C) (moment : ℕ) (old new : W) (k : Connection C)
    → Grows k (connection_after_reload device moment old new k)
unfolding connection_after_reload
connection_after_reload-grows device moment old new k =
    grows_cond k (is_deaf k) k _ (grows_same k) (after_client_outcome-grows (device.client_after_reload moment old new k.client) k)

-- A connection stays as it is, or is there.
abbrev pub StaysOrIsThere : {C : Type 0} → Connection C → Connection C → Type 0
StaysOrIsThere k l = (l ≡ k) ⊎ (l.gone ≡ false)

deaf_stays : {C : Type 0} (k l : Connection C) → l.gone ≡ k.gone → StaysOrIsThere k (cond (is_deaf k) k l)
deaf_stays k l g =
    elim (cases_Bool (is_deaf k)) [
      | inl b ↦ inl (rw b refl)
      | inr b ↦ inr (ap (λ (t : Bool). (cond t k l).gone) b ∙ g ∙ not_gone k.closing k.gone b)
    ]

pub after_tick-stays : {W C : Type 0} (device : Device W C) (moment : ℕ) (world : W) (k : Connection C)
    → StaysOrIsThere k (connection_after_tick device moment world k)
unfolding connection_after_tick
after_tick-stays device moment world k = deaf_stays k _ (after_client_outcome-grows (device.client_after_tick moment world k.client) k).gone

pub after_reload-stays : {W C : Type 0} (device : Device W C) (moment : ℕ) (old new : W) (k : Connection C)
    → StaysOrIsThere k (connection_after_reload device moment old new k)
unfolding connection_after_reload
after_reload-stays device moment old new k = deaf_stays k _ (after_client_outcome-grows (device.client_after_reload moment old new k.client) k).gone

pub after_piece-stays : {W C : Type 0} (device : Device W C) (piece : List ℕ) (x : Exchange W C)
    → StaysOrIsThere x.connection (after_piece device piece x).connection
unfolding after_piece
after_piece-stays {W} {C} device piece x =
    elim (cases_Bool (is_deaf x.connection)) [
      | inl b ↦ inl (rw b refl)
      | inr b ↦ inr ((after_piece-grows device piece x).gone ∙ not_gone x.connection.closing x.connection.gone b)
    ]
