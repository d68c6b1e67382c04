-- Over the server's machine: a piece does not see how much of what waits was taken, unless it closes the connection.
use Rattle.std.proofs.Common.{◌≡◌, ℕ, zero, suc, ◌+◌, ◌-◌, List, [], ◌∷◌, ◌++◌, length, drop, map, Bool, true, false, refl, sym, ap, ◌∙◌, arith, inl, inr}
use Rattle.std.specs.Prelude.{◌⊎◌, Option, Some, None, ◌||◌, nat_le, flat_map, if◌then◌else◌}
use Rattle.std.proofs.lemmas.Bool.{cases_Bool, cases_eq, cond-true, cond-false, leb-true, leb-false, le-leb}
use Rattle.std.proofs.lemmas.List.{drop-append-le}
use Rattle.std.proofs.Math.Seq.{drop-append-add}
use Rattle.spec_frames.specs.Division.{rest_of, front_of, is_broken}
use Rattle.spec_machine.specs.Device.{Device, Produced, Answer, Answered, Silent, Closing, FrameOutcome}
use Rattle.spec_machine.specs.Connection.{Connection, connection_of, put_back, bytes_of, bytes_of_all, is_deaf}
use Rattle.spec_machine.specs.Connection.{fits, with_closing, with_frame, queued_of, produce, MAX_QUEUED}
use Rattle.spec_machine.specs.MachineState.{MachineState, Exchange, exchange_of, with_exchange, after_exchange}
use Rattle.spec_machine.specs.Moves.{with_took}
use Rattle.spec_machine.specs.Offers.{left_after, waiting_of, is_closing, is_closing_at}
use Rattle.spec_machine.specs.Piece.{with_received, packets_left, with_one_taken, with_client, after_answer}
use Rattle.spec_machine.specs.Piece.{after_outcome, after_packet, after_packets, with_piece, end_of_piece}
use Rattle.spec_machine.specs.Piece.{after_piece}
use Rattle.spec_machine.proofs.Changes.{KeepsNumber, exchange_own, with_took-number}
use Rattle.spec_machine.proofs.Find.{test_same, test_other}
use Rattle.spec_machine.proofs.Growth.{Grows, grows_same, grows_then, bytes_of_grown, after_piece-grows}
use Rattle.spec_machine.proofs.Waiting.{joined, joined_bytes}
use Rattle.spec_local.specs.LocalCall.{waiting_bytes}

-- so many more bytes are taken
abbrev later_by : {C : Type 0} → ℕ → Connection C → Connection C
later_by n k = record k { bytes_taken = k.bytes_taken + n }

abbrev exchange_later : {W C : Type 0} → ℕ → Exchange W C → Exchange W C
exchange_later n x = record x { connection = later_by n x.connection }

fits_later : {C : Type 0} (f : Produced) (n : ℕ) (k : Connection C) → fits f k ≡ true → fits f (later_by n k) ≡ true
fits_later f n k e =
    let room = leb-true (queued_of k + length (bytes_of f)) MAX_QUEUED e in
    le-leb (queued_of (later_by n k) + length (bytes_of f)) MAX_QUEUED (omega (arith, room))

produce_so : {C : Type 0} (f : Produced) (n : ℕ) (k : Connection C) (closing fit fit' : Bool) → (fit ≡ true → fit' ≡ true)
    → (if closing then k else if fit then with_frame f k else with_closing k).closing ≡ false
    → (if closing then later_by n k else if fit' then with_frame f (later_by n k) else with_closing (later_by n k))
    ≡ later_by n (if closing then k else if fit then with_frame f k else with_closing k)
produce_so f n k true fit fit' more stays = refl
produce_so f n k false true fit' more stays = cond-true fit' _ _ (more refl)
produce_so f n k false false fit' more stays = absurd (let e : true ≡ false = stays in cc)

produce_later : {C : Type 0} (f : Produced) (n : ℕ) (k : Connection C) → (produce f k).closing ≡ false → produce f (later_by n k) ≡ later_by n (produce f k)
unfolding produce
produce_later f n k stays = produce_so f n k k.closing (fits f k) (fits f (later_by n k)) (fits_later f n k) stays

answer_later : {C : Type 0} (a : Answer) (n : ℕ) (k : Connection C)
    → (after_answer a k).closing ≡ false → after_answer a (later_by n k) ≡ later_by n (after_answer a k)
answer_later (Answered packet) n k stays = produce_later _ n k stays
answer_later Silent n k stays = refl
answer_later Closing n k stays = refl

packet_so : {W C : Type 0} (n : ℕ) (o : FrameOutcome W C) (x : Exchange W C) (closing : Bool)
    → (if closing then x else after_outcome o x.connection).connection.closing ≡ false
    → (if closing then exchange_later n x else after_outcome o (later_by n x.connection))
    ≡ exchange_later n (if closing then x else after_outcome o x.connection)
packet_so n o x true stays = refl
packet_so {W} {C} n o x false stays =
    ap (λ (k : Connection C). record { world = o.world; connection = k }) (answer_later o.answer n (with_client o.client (with_one_taken x.connection)) stays)

packet_later : {W C : Type 0} (device : Device W C) (packet : List ℕ) (n : ℕ) (x : Exchange W C) → (after_packet device packet x).connection.closing ≡ false
    → after_packet device packet (exchange_later n x) ≡ exchange_later n (after_packet device packet x)
unfolding after_packet
packet_later device packet n x stays = packet_so n (device.take x.world x.connection.client packet) x x.connection.closing stays

open_so : {W C : Type 0} (x y : Exchange W C) (closing : Bool) → x.connection.closing ≡ closing
    → (if closing then x else y).connection.closing ≡ false → closing ≡ false
open_so x y true is stays = absurd (let e : true ≡ false = sym is ∙ stays in cc)
open_so x y false is stays = refl

packet_open : {W C : Type 0} (device : Device W C) (packet : List ℕ) (x : Exchange W C)
    → (after_packet device packet x).connection.closing ≡ false → x.connection.closing ≡ false
unfolding after_packet
packet_open device packet x stays = open_so x _ x.connection.closing refl stays

packets_open : {W C : Type 0} (device : Device W C) (packets : List (List ℕ)) (x : Exchange W C)
    → (after_packets device packets x).connection.closing ≡ false → x.connection.closing ≡ false
unfolding after_packets
packets_open device [] x stays = stays
packets_open device (packet ∷ packets) x stays = packet_open device packet x (packets_open device packets (after_packet device packet x) stays)

packets_later : {W C : Type 0} (device : Device W C) (packets : List (List ℕ)) (n : ℕ) (x : Exchange W C)
    → (after_packets device packets x).connection.closing ≡ false
    → after_packets device packets (exchange_later n x) ≡ exchange_later n (after_packets device packets x)
unfolding after_packets
packets_later device [] n x stays = refl
packets_later device (packet ∷ packets) n x stays =
    let next = after_packet device packet x in
    ap (after_packets device packets) (packet_later device packet n x (packets_open device packets next stays)) ∙ packets_later device packets n next stays

rest_so : {C : Type 0} (n : ℕ) (k : Connection C) (b : Bool)
    → (if b then with_closing (later_by n k) else later_by n k) ≡ later_by n (if b then with_closing k else k)
rest_so n k true = refl
rest_so n k false = refl

rest_open_so : {C : Type 0} (k : Connection C) (b : Bool) → (if b then with_closing k else k).closing ≡ false → k.closing ≡ false
rest_open_so k true stays = absurd (let e : true ≡ false = stays in cc)
rest_open_so k false stays = stays

end_later : {W C : Type 0} (n : ℕ) (y : Exchange W C) → end_of_piece (exchange_later n y) ≡ exchange_later n (end_of_piece y)
end_later {W} {C} n y = ap (λ (k : Connection C). record y { connection = k }) (rest_so n y.connection (is_broken (front_of (rest_of y.connection.received))))

piece_so : {W C : Type 0} (device : Device W C) (piece : List ℕ) (n : ℕ) (x : Exchange W C) (deaf : Bool)
    → (if deaf then x else end_of_piece
    (after_packets device (packets_left (with_received piece x.connection)) (with_piece piece x))).connection.closing ≡ false
    → (if deaf then exchange_later n x else end_of_piece
    (after_packets device (packets_left (with_received piece x.connection)) (exchange_later n (with_piece piece x))))
    ≡ exchange_later n (if deaf then x else end_of_piece (after_packets device (packets_left (with_received piece x.connection)) (with_piece piece x)))
piece_so device piece n x true stays = refl
piece_so device piece n x false stays =
    let packets = packets_left (with_received piece x.connection) in
    let y = after_packets device packets (with_piece piece x) in
    ap end_of_piece (packets_later device packets n (with_piece piece x)
    (rest_open_so y.connection (is_broken (front_of (rest_of y.connection.received))) stays)) ∙ end_later n y

piece_later : {W C : Type 0} (device : Device W C) (piece : List ℕ) (n : ℕ) (x : Exchange W C) → (after_piece device piece x).connection.closing ≡ false
    → after_piece device piece (exchange_later n x) ≡ exchange_later n (after_piece device piece x)
unfolding after_piece
piece_later device piece n x stays = piece_so device piece n x (is_deaf x.connection) stays

deaf_so : {W C : Type 0} (x y : Exchange W C) → x.connection.closing ≡ true → (if x.connection.closing || x.connection.gone then x else y) ≡ x
deaf_so x y closing = rw closing refl

-- one that is closing takes nothing
piece_deaf : {W C : Type 0} (device : Device W C) (piece : List ℕ) (x : Exchange W C) → x.connection.closing ≡ true → after_piece device piece x ≡ x
unfolding after_piece
piece_deaf device piece x closing = deaf_so x _ closing

-- the connection 1 of a state, which is there
pub record HasOne {W C : Type 0} (s : MachineState W C) (k : Connection C) : Type 0 where
  pub is : connection_of 1 s.connections ≡ Some k
  pub there : k.gone ≡ false

-- so many more bytes of connection 1 are taken
abbrev pub taken_by : {W C : Type 0} → ℕ → MachineState W C → MachineState W C
taken_by n s = after_exchange (connection_of 1 s.connections) (with_took n) s

abbrev pub behind_piece : {W C : Type 0} → Device W C → List ℕ → MachineState W C → MachineState W C
behind_piece device piece s = after_exchange (connection_of 1 s.connections) (after_piece device piece) s

pub after_piece-number : {W C : Type 0} (device : Device W C) (piece : List ℕ) → KeepsNumber (after_piece device piece)
after_piece-number device piece x = (after_piece-grows device piece x).number

exchanged : {W C : Type 0} (f : Exchange W C → Exchange W C) (s : MachineState W C) (k : Connection C) → connection_of 1 s.connections ≡ Some k
    → after_exchange (connection_of 1 s.connections) f s ≡ with_exchange (f (exchange_of s k)) s
exchanged f s k is = ap (λ o. after_exchange o f s) is

put_back_twice : {C : Type 0} (new other : Connection C) (ks : List (Connection C))
    → new.number ≡ other.number → put_back new (put_back other ks) ≡ put_back new ks
unfolding put_back
put_back_twice new other [] same = refl
put_back_twice {C} new other (k ∷ ks) same = elim (cases_eq k.number other.number) [
  | inl q ↦
      let t = test_same k.number other.number q in
      let u = test_same other.number new.number (sym same) in
      let v = test_same k.number new.number (q ∙ sym same) in
      rw (t, v, u) refl
  | inr q ↦
      let t = test_other k.number other.number q in
      let v = test_other k.number new.number (λ e. q (e ∙ same)) in
      rw (t, v) (ap (λ (l : List (Connection C)). k ∷ l) (put_back_twice new other ks same))
]

-- two changes of connection 1, one behind the other
exchanged_twice : {W C : Type 0} (f g : Exchange W C → Exchange W C) → KeepsNumber f
    → KeepsNumber g → (s : MachineState W C) (k : Connection C) → connection_of 1 s.connections ≡ Some k
    → (let t = after_exchange (connection_of 1 s.connections) f s in after_exchange (connection_of 1 t.connections) g t)
    ≡ with_exchange (g (f (exchange_of s k))) s
exchanged_twice {W} {C} f g keeps keeps_too s k is =
    let x = f (exchange_of s k) in
    let t = after_exchange (connection_of 1 s.connections) f s in
    let own = exchange_own 1 f keeps s k is in
    ap (λ o. after_exchange o g t) own
    ∙ ap (λ (u : MachineState W C). with_exchange (g (exchange_of u x.connection)) u) (exchanged f s k is)
    ∙ ap (λ (ks : List (Connection C)). record s { world = (g x).world; connections = ks })
    (put_back_twice (g x).connection x.connection s.connections (keeps_too x))

took_later : {W C : Type 0} (n : ℕ) (x : Exchange W C) → x.connection.gone ≡ false → with_took n x ≡ exchange_later n x
took_later n x there = cond-false x.connection.gone _ _ there

-- a piece, and then so many bytes, or the other way round
piece_and_take : {W C : Type 0} (device : Device W C) (piece : List ℕ) (n : ℕ) (s : MachineState W C) (k : Connection C) → HasOne s k
    → after_piece device piece (exchange_later n (exchange_of s k)) ≡ exchange_later n (after_piece device piece (exchange_of s k))
    → behind_piece device piece (taken_by n s) ≡ taken_by n (behind_piece device piece s)
piece_and_take {W} {C} device piece n s k one same =
    let x = exchange_of s k in
    let stays : (after_piece device piece x).connection.gone ≡ false = (after_piece-grows device piece x).gone ∙ one.there in
    exchanged_twice (with_took n) (after_piece device piece) (with_took-number n) (after_piece-number device piece) s k one.is
    ∙ ap (λ (y : Exchange W C). with_exchange (after_piece device piece y) s) (took_later n x one.there)
    ∙ ap (λ (y : Exchange W C). with_exchange y s) (same ∙ sym (took_later n (after_piece device piece x) stays))
    ∙ sym (exchanged_twice (after_piece device piece) (with_took n) (after_piece-number device piece) (with_took-number n) s k one.is)

plus_plus : (a m n : ℕ) → a + m + n ≡ a + (m + n)
plus_plus a m n = omega arith

-- bytes that are taken in two parts
pub take_twice : {W C : Type 0} (m n : ℕ) (s : MachineState W C) (k : Connection C) → HasOne s k → taken_by n (taken_by m s) ≡ taken_by (m + n) s
take_twice {W} {C} m n s k one =
    let x = exchange_of s k in
    exchanged_twice (with_took m) (with_took n) (with_took-number m) (with_took-number n) s k one.is
    ∙ ap (λ (y : Exchange W C). with_exchange (with_took n y) s) (took_later m x one.there)
    ∙ ap (λ (y : Exchange W C). with_exchange y s) (took_later n (exchange_later m x) one.there
    ∙ ap (λ (t : ℕ). record x { connection = record k { bytes_taken = t } }) (plus_plus k.bytes_taken m n) ∙ sym (took_later (m + n) x one.there))
    ∙ sym (exchanged (with_took (m + n)) s k one.is)

-- pieces of connection 1
abbrev pub behind_pieces : {W C : Type 0} → Device W C → List (List ℕ) → MachineState W C → MachineState W C
behind_pieces device [] s = s
behind_pieces device (piece ∷ pieces) s = behind_pieces device pieces (behind_piece device piece s)

-- a state whose connection 1 grew
pub record GrewTo {W C : Type 0} (s : MachineState W C) (k : Connection C) : Type 0 where
  pub new : Connection C
  pub one : HasOne s new
  pub grew : Grows k new

abbrev pub grew_by_piece : {W C : Type 0} (device : Device W C) (piece : List ℕ) (s : MachineState W C) (k : Connection C)
    → HasOne s k → GrewTo (behind_piece device piece s) k
grew_by_piece device piece s k one =
    let grows = after_piece-grows device piece (exchange_of s k) in
    record {
      new = (after_piece device piece (exchange_of s k)).connection;
      one = record { is = exchange_own 1 (after_piece device piece) (after_piece-number device piece) s k one.is; there = grows.gone ∙ one.there };
      grew = grows;
    }

pub grew_by_pieces : {W C : Type 0} (device : Device W C) (pieces : List (List ℕ)) (s : MachineState W C) (k : Connection C)
    → HasOne s k → GrewTo (behind_pieces device pieces s) k
grew_by_pieces device [] s k one = record { new = k; one = one; grew = grows_same k }
grew_by_pieces device (piece ∷ pieces) s k one =
    let first = grew_by_piece device piece s k one in
    let others = grew_by_pieces device pieces (behind_piece device piece s) first.new first.one in
    record { new = others.new; one = others.one; grew = grows_then k first.new others.new first.grew others.grew }

pub one_behind_take : {W C : Type 0} (n : ℕ) (s : MachineState W C) (k : Connection C) → HasOne s k → HasOne (taken_by n s) (later_by n k)
one_behind_take {W} {C} n s k one = record {
  is = exchange_own 1 (with_took n) (with_took-number n) s k one.is ∙ ap (λ (x : Exchange W C). Some x.connection) (took_later n (exchange_of s k) one.there);
  there = one.there;
}

closing_of : {W C : Type 0} (s : MachineState W C) (k : Connection C) → HasOne s k → is_closing_at 1 s ≡ k.closing
closing_of s k one = ap is_closing one.is

-- a connection that closes stays so
piece_closing : {W C : Type 0} (device : Device W C) (piece : List ℕ) (s : MachineState W C) (k : Connection C) (one : HasOne s k) → k.closing ≡ true
    → (grew_by_piece device piece s k one).new.closing ≡ true
piece_closing {W} {C} device piece s k one closing =
    ap (λ (x : Exchange W C). x.connection.closing) (piece_deaf device piece (exchange_of s k) closing) ∙ closing

pieces_closing : {W C : Type 0} (device : Device W C) (pieces : List (List ℕ)) (s : MachineState W C) (k : Connection C) → HasOne s k → k.closing ≡ true
    → is_closing_at 1 (behind_pieces device pieces s) ≡ true
pieces_closing device [] s k one closing = closing_of s k one ∙ closing
pieces_closing device (piece ∷ pieces) s k one closing =
    let first = grew_by_piece device piece s k one in
    pieces_closing device pieces (behind_piece device piece s) first.new first.one (piece_closing device piece s k one closing)

-- where the pieces close nothing that was open, it is the same in which order they come and the bytes are taken
pub pieces_and_take : {W C : Type 0} (device : Device W C) (pieces : List (List ℕ)) (n : ℕ) (s : MachineState W C) (k : Connection C) → HasOne s k
    → (k.closing ≡ true) ⊎ (is_closing_at 1 (behind_pieces device pieces s) ≡ false)
    → behind_pieces device pieces (taken_by n s) ≡ taken_by n (behind_pieces device pieces s)
pieces_and_take device [] n s k one or_open = refl
pieces_and_take {W} {C} device (piece ∷ pieces) n s k one or_open =
    let x = exchange_of s k in
    let first = grew_by_piece device piece s k one in
    let later = behind_piece device piece s in
    elim or_open [
      | inl closing ↦
          ap (behind_pieces device pieces) (piece_and_take device piece n s k one
          (piece_deaf device piece (exchange_later n x) closing ∙ ap (exchange_later n) (sym (piece_deaf device piece x closing))))
          ∙ pieces_and_take device pieces n later first.new first.one (inl (piece_closing device piece s k one closing))
      | inr stays ↦ elim (cases_Bool first.new.closing) [
        | inl closes ↦ absurd (let e : true ≡ false = sym (pieces_closing device pieces later first.new first.one closes) ∙ stays in cc)
        | inr is_open ↦
            ap (behind_pieces device pieces) (piece_and_take device piece n s k one (piece_later device piece n x is_open))
            ∙ pieces_and_take device pieces n later first.new first.one (inr stays)
      ]
    ]

pub pieces-append : {W C : Type 0} (device : Device W C) (first second : List (List ℕ)) (s : MachineState W C)
    → behind_pieces device (first ++ second) s ≡ behind_pieces device second (behind_pieces device first s)
pieces-append device [] second s = refl
pieces-append device (piece ∷ first) second s = pieces-append device first second (behind_piece device piece s)

-- the clock stands still
exchange_moment : {W C : Type 0} (o : Option (Connection C)) (f : Exchange W C → Exchange W C) (s : MachineState W C) → (after_exchange o f s).moment ≡ s.moment
exchange_moment None f s = refl
exchange_moment (Some k) f s = refl

pub taken_moment : {W C : Type 0} (n : ℕ) (s : MachineState W C) → (taken_by n s).moment ≡ s.moment
taken_moment n s = exchange_moment (connection_of 1 s.connections) (with_took n) s

pub pieces_moment : {W C : Type 0} (device : Device W C) (pieces : List (List ℕ)) (s : MachineState W C) → (behind_pieces device pieces s).moment ≡ s.moment
pieces_moment device [] s = refl
pieces_moment device (piece ∷ pieces) s =
    pieces_moment device pieces (behind_piece device piece s) ∙ exchange_moment (connection_of 1 s.connections) (after_piece device piece) s

-- the bytes that wait are those that were produced and not taken
flat_left : (n : ℕ) (fs : List (List ℕ)) → flat_map (λ (f : List ℕ). f) (left_after n fs) ≡ drop n (joined fs)
unfolding left_after
flat_left zero [] = refl
flat_left (suc n) [] = refl
flat_left n (f ∷ fs) = elim (cases_Bool (nat_le (length f) n)) [
  | inl t ↦
      let l = leb-true (length f) n t in
      let e : n ≡ length f + (n - length f) = omega (arith, l) in
      rw t (flat_left (n - length f) fs ∙ sym (ap (λ i. drop i (f ++ joined fs)) e ∙ drop-append-add f (joined fs) (n - length f)))
  | inr t ↦
      let l = leb-false (length f) n t in
      rw t (ap (λ bytes. drop n f ++ bytes) (flat_left 0 fs) ∙ sym (drop-append-le n f (joined fs) (omega (arith, l))))
]

waiting_so : {C : Type 0} (k : Connection C) (gone : Bool) → k.gone ≡ gone → gone ≡ false
    → flat_map (λ (f : List ℕ). f) (waiting_of (Some k)) ≡ drop k.bytes_taken (bytes_of_all k.produced)
waiting_so k true is there = absurd (let e : true ≡ false = there in cc)
waiting_so k false is there = rw is (flat_left k.bytes_taken (map bytes_of k.produced) ∙ ap (drop k.bytes_taken) (joined_bytes k.produced))

pub waiting_is : {W C : Type 0} (s : MachineState W C) (k : Connection C) → HasOne s k → waiting_bytes s ≡ drop k.bytes_taken (bytes_of_all k.produced)
waiting_is s k one = ap (λ o. flat_map (λ (f : List ℕ). f) (waiting_of o)) one.is ∙ waiting_so k k.gone refl one.there

-- where something waits there is a connection 1
pub record SomeOne {W C : Type 0} (s : MachineState W C) : Type 0 where
  pub connection : Connection C
  pub one : HasOne s connection

empty_or_not : (xs : List ℕ) (b : ℕ) (bs : List ℕ) → xs ≡ [] → xs ≡ b ∷ bs → ⊥
empty_or_not xs b bs none some = cc

found_so : {W C : Type 0} (s : MachineState W C) (o : Option (Connection C)) → connection_of 1 s.connections ≡ o
    → (b : ℕ) (bs : List ℕ) → flat_map (λ (f : List ℕ). f) (waiting_of o) ≡ b ∷ bs → SomeOne s
found_so s None is b bs waits = absurd (empty_or_not [] b bs refl waits)
found_so {W} {C} s (Some k) is b bs waits = elim (cases_Bool k.gone) [
  | inl gone ↦ absurd (empty_or_not [] b bs refl (rw gone at waits))
  | inr there ↦ record { connection = k; one = record { is = is; there = there } }
]

pub some_one : {W C : Type 0} (s : MachineState W C) (b : ℕ) (bs : List ℕ) → waiting_bytes s ≡ b ∷ bs → SomeOne s
some_one s b bs waits = found_so s (connection_of 1 s.connections) refl b bs waits

one_plus : (n : ℕ) → n + 1 ≡ suc n
one_plus n = omega arith

drop_one-append : (n : ℕ) (xs : List ℕ) (y : ℕ) (ys zs : List ℕ) → drop n xs ≡ y ∷ ys → drop (suc n) (xs ++ zs) ≡ ys ++ zs
drop_one-append zero [] y ys zs e = cc
drop_one-append zero (x ∷ xs) y ys zs e = let same : xs ≡ ys = cc in ap (λ l. l ++ zs) same
drop_one-append (suc n) [] y ys zs e = cc
drop_one-append (suc n) (x ∷ xs) y ys zs e = drop_one-append n xs y ys zs e

-- behind the first byte that waits and some pieces, the others wait, and then what the pieces were given
pub record StillWaits {W C : Type 0} (s : MachineState W C) (bytes : List ℕ) : Type 0 where
  pub more : List ℕ
  pub waits : waiting_bytes s ≡ bytes ++ more

pub waits_behind : {W C : Type 0} (device : Device W C) (pieces : List (List ℕ)) (s : MachineState W C) (b : ℕ) (bs : List ℕ) → waiting_bytes s ≡ b ∷ bs
    → StillWaits (behind_pieces device pieces (taken_by 1 s)) bs
waits_behind {W} {C} device pieces s b bs waits =
    let old = some_one s b bs waits in
    let k = old.connection in
    let g = grew_by_pieces device pieces (taken_by 1 s) (later_by 1 k) (one_behind_take 1 s k old.one) in
    let all = bytes_of_all k.produced in
    let more = bytes_of_all g.grew.more in
    let first : drop k.bytes_taken all ≡ b ∷ bs = sym (waiting_is s k old.one) ∙ waits in
    record {
      more = more;
      waits = waiting_is (behind_pieces device pieces (taken_by 1 s)) g.new g.one
          ∙ ap (λ (n : ℕ). drop n (bytes_of_all g.new.produced)) g.grew.bytes_taken
          ∙ ap (λ (n : ℕ). drop n (bytes_of_all g.new.produced)) (one_plus k.bytes_taken)
          ∙ ap (drop (suc k.bytes_taken)) (bytes_of_grown (later_by 1 k) g.new g.grew)
          ∙ drop_one-append k.bytes_taken all b bs more first;
    }
