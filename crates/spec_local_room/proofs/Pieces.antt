-- A request comes as one piece: the connection closes, or one frame is produced that answers it.
use Rattle.std.proofs.Common.{◌≡◌, ◌⊎◌, ℕ, ◌+◌, ◌<◌, ◌^◌, List, [], ◌∷◌, ◌++◌, length, drop, true, false, refl, sym, ap, ◌∙◌, subst, inl, inr, arith}
use Rattle.std.specs.Prelude.{◌||◌, if◌then◌else◌}
use Rattle.std.proofs.lemmas.Bool.{cases_Bool, cond-true, cond-false}
use Rattle.std.proofs.lemmas.List.{append-nil, length-append}
use Rattle.std.proofs.Math.Seq.{drop-append_seam}
use Rattle.spec_frames.specs.Frame.{frame_bytes}
use Rattle.spec_frames.specs.Division.{Broken, front_of, frames_of, rest_of, is_broken}
use Rattle.spec_frames.proofs.FrontLemmas.{front_of-short}
use Rattle.spec_frames.proofs.DivisionLemmas.{frames_of-append, rest_of-append}
use Rattle.spec_machine.specs.Connection.{Connection, with_closing, with_frame, fits, produce}
use Rattle.spec_machine.specs.Device.{Device, Answer, Answered, Silent, Closing, FrameOutcome, Reply}
use Rattle.spec_machine.specs.MachineState.{Exchange}
use Rattle.spec_machine.specs.Piece.{with_received, packets_left, with_one_taken, with_client, after_answer, after_outcome, after_packet, after_packets}
use Rattle.spec_machine.specs.Piece.{after_rest, with_piece, end_of_piece, after_piece}
use Rattle.spec_local_room.proofs.Coming.{AllCame, ComesBroken, comes}

-- all that a connection received are frames, and all are taken
pub record TakesWhole {C : Type 0} (k : Connection C) : Type 0 where
  pub rest : rest_of k.received ≡ []
  pub taken : k.frames_taken ≡ length (frames_of k.received)

-- nothing more is produced
pub record Closes {C : Type 0} (k l : Connection C) : Type 0 where
  pub closing : l.closing ≡ true
  pub produced : l.produced ≡ k.produced
  pub bytes_taken : l.bytes_taken ≡ k.bytes_taken
  pub gone : l.gone ≡ k.gone

-- a frame is produced, and the connection stands so
pub record Gives {C : Type 0} (client : C) (packet : List ℕ) (k l : Connection C) : Type 0 where
  pub closing : l.closing ≡ false
  pub produced : l.produced ≡ k.produced ++ Reply (frame_bytes packet) ∷ []
  pub bytes_taken : l.bytes_taken ≡ k.bytes_taken
  pub gone : l.gone ≡ k.gone
  pub whole : TakesWhole l
  pub client_is : l.client ≡ client
  pub room : fits (Reply (frame_bytes packet)) k ≡ true

rest_fine : {C : Type 0} (l : Connection C) → rest_of l.received ≡ [] → after_rest l ≡ l
rest_fine l none =
    cond-false (is_broken (front_of (rest_of l.received))) _ _
    (ap (λ r. is_broken (front_of r)) none ∙ ap is_broken (front_of-short [] (omega arith)))

rest_closes : {C : Type 0} (l : Connection C) → front_of (rest_of l.received) ≡ Broken → after_rest l ≡ with_closing l
rest_closes l broken = cond-true (is_broken (front_of (rest_of l.received))) _ _ (ap is_broken broken)

-- behind an answer: nothing was silent
abbrev pub Replies : Answer → Type 0
Replies (Answered packet) = Unit {0}
Replies Silent = ⊥
Replies Closing = Unit {0}

-- what becomes of the connection
pub record Served {W C : Type 0} (o : FrameOutcome W C) (k l : Connection C) : Type 0 where
  pub packet : List ℕ
  pub answer : o.answer ≡ Answered packet
  pub gives : Gives o.client packet k l

abbrev pub Taken : {W C : Type 0} → FrameOutcome W C → Connection C → Connection C → Type 0
Taken o k l = Closes k l ⊎ Served o k l

closes_rest : {C : Type 0} (k l : Connection C) → l.closing ≡ true → l.produced ≡ k.produced
    → l.bytes_taken ≡ k.bytes_taken → l.gone ≡ k.gone → rest_of l.received ≡ []
    → Closes k (after_rest l)
closes_rest {C} k l closing produced taken gone none =
    subst (λ (m : Connection C). Closes k m) (sym (rest_fine l none)) (record { closing = closing; produced = produced; bytes_taken = taken; gone = gone })

-- a connection that took one frame more
record OneMore {C : Type 0} (client : C) (k l : Connection C) : Type 0 where
  closing : l.closing ≡ false
  produced : l.produced ≡ k.produced
  bytes_taken : l.bytes_taken ≡ k.bytes_taken
  gone : l.gone ≡ k.gone
  whole : TakesWhole l
  client_is : l.client ≡ client

same_room : {C : Type 0} (packet : List ℕ) (k l : Connection C) → l.produced ≡ k.produced
    → l.bytes_taken ≡ k.bytes_taken → fits (Reply (frame_bytes packet)) l ≡ fits (Reply (frame_bytes packet)) k
same_room packet k l produced taken = rw (produced, taken) refl

produced_so : {W C : Type 0} (o : FrameOutcome W C) (packet : List ℕ) (k l : Connection C) → o.answer ≡ Answered packet → OneMore o.client k l
    → Taken o k (after_rest (produce (Reply (frame_bytes packet)) l))
unfolding produce
produced_so {W} {C} o packet k l is m =
    let frame = Reply (frame_bytes packet) in
    elim (cases_Bool (fits frame l)) [
      | inl room ↦
          let same : (if l.closing then l else if fits frame l then with_frame frame l else with_closing l) ≡ with_frame frame l = rw (m.closing, room) refl in
          let new : Connection C = with_frame frame l in
          subst (λ (x : Connection C). Taken o k (after_rest x)) (sym same)
          (subst (λ (x : Connection C). Taken o k x) (sym (rest_fine new m.whole.rest)) (inr (record {
            packet = packet;
            answer = is;
            gives = record {
              closing = m.closing;
              produced = ap (λ ps. ps ++ frame ∷ []) m.produced;
              bytes_taken = m.bytes_taken;
              gone = m.gone;
              whole = record { rest = m.whole.rest; taken = m.whole.taken };
              client_is = m.client_is;
              room = sym (same_room packet k l m.produced m.bytes_taken) ∙ room;
            };
          })))
      | inr full ↦
          let same : (if l.closing then l else if fits frame l then with_frame frame l else with_closing l) ≡ with_closing l = rw (m.closing, full) refl in
          subst (λ (x : Connection C). Taken o k (after_rest x)) (sym same)
          (inl (closes_rest k (with_closing l) refl m.produced m.bytes_taken m.gone m.whole.rest))
    ]

taken_so : {W C : Type 0} (o : FrameOutcome W C) (a : Answer) (k l : Connection C) → o.answer ≡ a → Replies a → OneMore o.client k l
    → Taken o k (after_rest (after_answer a l))
taken_so o (Answered packet) k l is replies m = produced_so o packet k l is m
taken_so o Silent k l is replies m = absurd replies
taken_so o Closing k l is replies m = inl (closes_rest k (with_closing l) refl m.produced m.bytes_taken m.gone m.whole.rest)

-- the piece, in its steps
piece_opens : {W C : Type 0} (device : Device W C) (piece : List ℕ) (x : Exchange W C) (packets : List (List ℕ))
    → x.connection.closing ≡ false → x.connection.gone ≡ false
    → packets_left (with_received piece x.connection) ≡ packets
    → after_piece device piece x ≡ end_of_piece (after_packets device packets (with_piece piece x))
unfolding after_piece
piece_opens {W} {C} device piece x packets is_open there left =
    let deaf : (x.connection.closing || x.connection.gone) ≡ false = rw (is_open, there) refl in
    cond-false (x.connection.closing || x.connection.gone) _ _ deaf ∙ ap (λ ps. end_of_piece (after_packets device ps (with_piece piece x))) left

one_packet : {W C : Type 0} (device : Device W C) (packet : List ℕ) (x : Exchange W C) → x.connection.closing ≡ false
    → after_packets device (packet ∷ []) x ≡ after_outcome (device.take x.world x.connection.client packet) x.connection
unfolding after_packets after_packet
one_packet device packet x is_open = cond-false x.connection.closing _ _ is_open

no_packet : {W C : Type 0} (device : Device W C) (x : Exchange W C) → after_packets device [] x ≡ x
unfolding after_packets
no_packet device x = refl

-- what a piece leads to
pub record PieceTaken {W C : Type 0} (device : Device W C) (packet : List ℕ) (x y : Exchange W C) : Type 0 where
  pub taken : Taken (device.take x.world x.connection.client packet) x.connection y.connection
  pub world : y.connection.closing ≡ false → y.world ≡ (device.take x.world x.connection.client packet).world

none_closes : {C : Type 0} (k l : Connection C) → Closes k l → l.closing ≡ false → ⊥
none_closes k l closes is_open = let both : true ≡ false = sym closes.closing ∙ is_open in cc

new_packets : {C : Type 0} (piece : List ℕ) (k : Connection C) (packets : List (List ℕ)) → TakesWhole k → frames_of piece ≡ packets
    → packets_left (with_received piece k) ≡ packets
new_packets piece k packets whole is =
    ap (λ l. drop k.frames_taken l) (frames_of-append piece k.received)
    ∙ ap (λ r. drop k.frames_taken (frames_of k.received ++ frames_of (r ++ piece))) whole.rest
    ∙ ap (λ n. drop n (frames_of k.received ++ frames_of piece)) whole.taken
    ∙ drop-append_seam (frames_of k.received) (frames_of piece) ∙ is

new_rest : {C : Type 0} (piece : List ℕ) (k : Connection C) → TakesWhole k → rest_of (k.received ++ piece) ≡ rest_of piece
new_rest piece k whole = rest_of-append piece k.received ∙ ap (λ r. rest_of (r ++ piece)) whole.rest

whole_piece : {W C : Type 0} (device : Device W C) (p piece : List ℕ) (x : Exchange W C)
    → AllCame piece [] p → x.connection.closing ≡ false → x.connection.gone ≡ false
    → TakesWhole x.connection → Replies (device.take x.world x.connection.client p).answer → PieceTaken device p x (after_piece device piece x)
whole_piece {W} {C} device p piece x all is_open there whole replies =
    let k = x.connection in
    let o = device.take x.world k.client p in
    let k1 : Connection C = with_received piece k in
    let l : Connection C = with_client o.client (with_one_taken k1) in
    let left = new_packets piece k (p ∷ []) whole all.frames in
    let is : after_piece device piece x ≡ end_of_piece (after_outcome o k1)
    = piece_opens device piece x (p ∷ []) is_open there left ∙ ap (λ (y : Exchange W C). end_of_piece y) (one_packet device p (with_piece piece x) is_open) in
    let frames : frames_of (k.received ++ piece) ≡ frames_of k.received ++ p ∷ []
    = frames_of-append piece k.received ∙ ap (λ r. frames_of k.received ++ frames_of (r ++ piece)) whole.rest
    ∙ ap (λ f. frames_of k.received ++ f) all.frames in
    let count : length (frames_of (k.received ++ piece)) ≡ length (frames_of k.received) + 1
    = ap (λ f. length f) frames ∙ length-append (frames_of k.received) (p ∷ []) in
    let more : OneMore o.client k l = record {
      closing = is_open;
      produced = refl;
      bytes_taken = refl;
      gone = refl;
      whole = record { rest = new_rest piece k whole ∙ all.rest; taken = ap (λ n. n + 1) whole.taken ∙ sym count };
      client_is = refl;
    } in
    subst (λ (y : Exchange W C). PieceTaken device p x y) (sym is) (record {
      taken = taken_so o o.answer k l refl replies more;
      world = λ open_yet. refl;
    })

broken_piece : {W C : Type 0} (device : Device W C) (p piece : List ℕ) (x : Exchange W C)
    → ComesBroken piece → x.connection.closing ≡ false → x.connection.gone ≡ false
    → TakesWhole x.connection → PieceTaken device p x (after_piece device piece x)
broken_piece {W} {C} device p piece x broken is_open there whole =
    let k = x.connection in
    let k1 : Connection C = with_received piece k in
    let is : after_piece device piece x ≡ end_of_piece (with_piece piece x)
    = piece_opens device piece x [] is_open there (new_packets piece k [] whole broken.frames)
    ∙ ap (λ (y : Exchange W C). end_of_piece y) (no_packet device (with_piece piece x)) in
    let front : front_of (rest_of k1.received) ≡ Broken = ap front_of (new_rest piece k whole ∙ broken.rest) ∙ broken.front in
    let closes : Closes k (after_rest k1)
    = subst (λ (m : Connection C). Closes k m) (sym (rest_closes k1 front)) (record { closing = refl; produced = refl; bytes_taken = refl; gone = refl }) in
    subst (λ (y : Exchange W C). PieceTaken device p x y) (sym is) (record {
      taken = inl closes;
      world = λ open_yet. absurd (none_closes k (after_rest k1) closes open_yet);
    })

-- one whole request
pub piece_taken : {W C : Type 0} (device : Device W C) (p : List ℕ) (x : Exchange W C)
    → length p < 2 ^ 32 → x.connection.closing ≡ false → x.connection.gone ≡ false
    → TakesWhole x.connection → Replies (device.take x.world x.connection.client p).answer → PieceTaken device p x (after_piece device (frame_bytes p) x)
piece_taken device p x small is_open there whole replies =
    elim (comes (frame_bytes p) [] p (append-nil (frame_bytes p)) small) [
      | inl all ↦ whole_piece device p (frame_bytes p) x all is_open there whole replies
      | inr (inl still) ↦ absurd (still.some_left refl)
      | inr (inr broken) ↦ broken_piece device p (frame_bytes p) x broken is_open there whole
    ]
