-- The passages of one sender are its frames that were taken, in their order.
use Rattle.std.proofs.Common.{◌≡◌, ◌≢◌, ℕ, ◌+◌, ◌≤◌, List, [], ◌∷◌, ◌++◌, length, take, drop, true, false}
use Rattle.std.proofs.Common.{refl, sym, subst, ◌∙◌, ap, inl, inr, arith, append_assoc, length-append}
use Rattle.std.specs.Prelude.{Option, Some, None, option_map, ◌==◌}
use Rattle.std.proofs.lemmas.Bool.{cases_Bool, cond_both, cases_eq, eq-eqb, ne_eqb}
use Rattle.std.proofs.lemmas.List.{append-nil, length-drop, drop-drop, take-append-le}
use Rattle.std.proofs.Math.Seq.{take-add}
use Rattle.spec_frames.specs.Division.{is_broken, front_of, rest_of, frames_of}
use Rattle.spec_frames.proofs.DivisionLemmas.{frames_of-append}
use Rattle.ads_outside.specs.declared.event.Event.{Event}
use Rattle.ads_outside.specs.declared.event.Event.TheVariants as event
use Rattle.ads_outside.specs.declared.moves.Move.{Move}
use Rattle.ads_outside.specs.declared.moves.Move.TheVariants as move
use Rattle.spec_formats.specs.Header.{header_of}
use Rattle.spec_machine.specs.Device.{Produced}
use Rattle.spec_machine.specs.Connection.{connection_of, is_deaf, fits, produce, fresh_connection}
use Rattle.spec_machine.specs.Piece.{with_received, packets_left, with_one_taken, after_rest}
use Rattle.spec_machine.specs.Moves.{with_gone, with_took}
use Rattle.spec_machine.specs.MachineState.{Exchange}
use Rattle.spec_machine.proofs.Changes.{with_took-number, with_gone-number}
use Rattle.spec_machine.proofs.Find.{or_else, connection_of-append}
use Rattle.spec_relay.specs.RelayState.{RelayWorld, Owned, RelayConnection, RelayState, relay_start}
use Rattle.spec_relay.specs.Routing.{delivered, at_connection, with_frame_taken, after_frame_of, after_frame}
use Rattle.spec_relay.specs.RelayMoves.{after_frames, after_piece_of, relay_after_event}
use Rattle.spec_machine.specs.Moves.{state_after_move, state_after}
use Rattle.spec_relay.specs.Passages.{Passage, passages_of_frame_at, passages_of_frame, passages_of_frames}
use Rattle.spec_relay.specs.Passages.{passages_of_piece, passages_of_event, passages_of_move, passages_of}
use Rattle.spec_relay.specs.PassedOn.{packets_from}
use Rattle.spec_relay.specs.RelayLaws.{packets_taken, TakesInOrder}
use Rattle.spec_relay.proofs.ChangeLemmas.{exchange-keeps, changed-own, changed-other, change-keeps}
use Rattle.spec_relay.proofs.KeptLemmas.{IsKeptByFrames, header-seen}

-- what came of a connection, and how many of its frames were taken
abbrev pub progress : Option RelayConnection → Option (List ℕ × ℕ)
progress o = option_map (λ (k : RelayConnection). (k.received, k.frames_taken)) o

abbrev pub progress_at : ℕ → RelayState → Option (List ℕ × ℕ)
progress_at d s = progress (connection_of d s.connections)

abbrev packets_in : Option (List ℕ × ℕ) → List (List ℕ)
packets_in None = []
packets_in (Some p) = take p.1 (frames_of p.0)

-- no more were taken than came
abbrev Fits : Option (List ℕ × ℕ) → Type 0
Fits None = Unit {0}
Fits (Some p) = p.1 ≤ length (frames_of p.0)

produce-progress : (frame : Produced) (k : RelayConnection) → progress (Some (produce frame k)) ≡ progress (Some k)
unfolding produce
produce-progress frame k = elim (cases_Bool k.closing) [
  | inl c ↦ rw c refl
  | inr c ↦ rw c (elim (cases_Bool (fits frame k)) [ inl f ↦ rw f refl | inr f ↦ rw f refl ])
]

delivered-progress : (frame : Produced) (k : RelayConnection) → progress (Some (delivered frame k)) ≡ progress (Some k)
delivered-progress frame k =
    cond_both k.gone k (produce frame k) (λ (l : RelayConnection). progress (Some l) ≡ progress (Some k)) (λ g. refl) (λ g. produce-progress frame k)

-- a frame keeps it, whatever becomes of the frame
progress-kept : IsKeptByFrames progress
progress-kept = record { given = delivered-progress; closed = λ k. refl; client = λ client k. refl }

-- the frames of another connection
frame-other : (n d : ℕ) (packet : List ℕ) (s : RelayState) → n ≢ d → progress_at d (after_frame n packet s) ≡ progress_at d s
unfolding after_frame
frame-other n d packet s ne = go (connection_of n s.connections)
  where
    go : (o : Option RelayConnection) → progress_at d (after_frame_of n packet s o) ≡ progress_at d s
    go None = refl
    go (Some k) = elim (cases_Bool k.closing) [
      | inl t ↦ rw t refl
      | inr t ↦ rw t (header-seen progress progress-kept d n packet k (with_frame_taken n s) (header_of packet)
          ∙ ap progress (changed-other n d with_one_taken (λ k. refl) ne s))
    ]

-- a frame of one's own
pub frame-own : (c : ℕ) (packet : List ℕ) (s : RelayState) (k : RelayConnection) → connection_of c s.connections ≡ Some k
    → k.closing ≡ false → progress_at c (after_frame c packet s) ≡ Some (k.received, k.frames_taken + 1)
unfolding after_frame
frame-own c packet s k e t =
    let P : Option RelayConnection → Type 0 = λ o. progress_at c (after_frame_of c packet s o) ≡ Some (k.received, k.frames_taken + 1) in
    let taken : connection_of c (with_frame_taken c s).connections ≡ Some (with_one_taken k) =
    changed-own c with_one_taken (λ k. refl) s ∙ ap (option_map with_one_taken) e in
    subst P (sym e) (rw t (header-seen progress progress-kept c c packet k (with_frame_taken c s) (header_of packet) ∙ ap progress taken))

frame-closed : (c : ℕ) (packet : List ℕ) (s : RelayState) (k : RelayConnection)
    → connection_of c s.connections ≡ Some k → k.closing ≡ true → after_frame c packet s ≡ s
unfolding after_frame
frame-closed c packet s k e t =
    let P : Option RelayConnection → Type 0 = λ o. after_frame_of c packet s o ≡ s in
    subst P (sym e) (rw t refl)

passages-closed : (c : ℕ) (packet : List ℕ) (s : RelayState) (k : RelayConnection)
    → connection_of c s.connections ≡ Some k → k.closing ≡ true → passages_of_frame c packet s ≡ []
unfolding passages_of_frame
passages-closed c packet s k e t =
    let P : Option RelayConnection → Type 0 = λ o. passages_of_frame_at c packet s o ≡ [] in
    subst P (sym e) (rw t refl)

packets-own : (c : ℕ) (packet : List ℕ) (s : RelayState) (k : RelayConnection) → connection_of c s.connections ≡ Some k
    → k.closing ≡ false → packets_from c (passages_of_frame c packet s) ≡ packet ∷ []
unfolding passages_of_frame
packets-own c packet s k e t =
    let P : Option RelayConnection → Type 0 = λ o. packets_from c (passages_of_frame_at c packet s o) ≡ packet ∷ [] in
    let same = eq-eqb c c refl in
    subst P (sym e) (rw t (rw same refl))

packets-other : (n c : ℕ) (packet : List ℕ) (s : RelayState) → n ≢ c → packets_from c (passages_of_frame n packet s) ≡ []
unfolding passages_of_frame
packets-other n c packet s ne = go (connection_of n s.connections)
  where
    go : (o : Option RelayConnection) → packets_from c (passages_of_frame_at n packet s o) ≡ []
    go None = refl
    go (Some k) = elim (cases_Bool k.closing) [
      | inl t ↦ rw t refl
      | inr t ↦ let other = ne_eqb n c ne in rw t (rw other refl)
    ]

packets_from-append : (c : ℕ) (ps qs : List Passage) → packets_from c (ps ++ qs) ≡ packets_from c ps ++ packets_from c qs
packets_from-append c [] qs = refl
packets_from-append c (p ∷ ps) qs = elim (cases_Bool (p.sender == c)) [
  | inl t ↦ rw t (ap (λ (l : List (List ℕ)). p.packet ∷ l) (packets_from-append c ps qs))
  | inr t ↦ rw t (packets_from-append c ps qs)
]

-- what a part of a run takes of a connection
record Takes (c : ℕ) (s u : RelayState) (ps : List Passage) : Type 0 where
  packets : packets_in (progress_at c u) ≡ packets_in (progress_at c s) ++ packets_from c ps
  fits : Fits (progress_at c u)

takes-same : (c : ℕ) (s u : RelayState) (ps : List Passage) → progress_at c u ≡ progress_at c s
    → packets_from c ps ≡ [] → Fits (progress_at c s) → Takes c s u ps
takes-same c s u ps same none f = record {
  packets = ap packets_in same ∙ sym (append-nil (packets_in (progress_at c s))) ∙ ap (λ (l : List (List ℕ)). packets_in (progress_at c s) ++ l) (sym none);
  fits = subst Fits (sym same) f;
}

takes-then : (c : ℕ) (s u v : RelayState) (ps qs : List Passage)
    → packets_in (progress_at c u) ≡ packets_in (progress_at c s) ++ packets_from c ps → Takes c u v qs → Takes c s v (ps ++ qs)
takes-then c s u v ps qs first second = record {
  packets = second.packets ∙ ap (λ (l : List (List ℕ)). l ++ packets_from c qs) first
      ∙ append_assoc (packets_in (progress_at c s)) (packets_from c ps) (packets_from c qs)
      ∙ ap (λ (l : List (List ℕ)). packets_in (progress_at c s) ++ l) (sym (packets_from-append c ps qs));
  fits = second.fits;
}

-- what is told by the progress of a connection that is there
record Told (o : Option RelayConnection) (received : List ℕ) (taken : ℕ) : Type 0 where
  connection : RelayConnection
  is : o ≡ Some connection
  received_is : connection.received ≡ received
  taken_is : connection.frames_taken ≡ taken

told_by : (o : Option RelayConnection) (received : List ℕ) (taken : ℕ) → progress o ≡ Some (received, taken) → Told o received taken
told_by None received taken e = absurd (let x : None ≡ Some (received, taken) = e in cc)
told_by (Some k) received taken e =
    let f : Some (k.received, k.frames_taken) ≡ Some (received, taken) = e in
    record { connection = k; is = refl; received_is = ap first f; taken_is = ap second f }
  where
    first : Option (List ℕ × ℕ) → List ℕ
    first None = []
    first (Some p) = p.0

    second : Option (List ℕ × ℕ) → ℕ
    second None = 0
    second (Some p) = p.1

frames-closed : (c : ℕ) (packets : List (List ℕ)) (s : RelayState) (k : RelayConnection) → connection_of c s.connections ≡ Some k → k.closing ≡ true
    → (after_frames c packets s ≡ s) × (passages_of_frames c packets s ≡ [])
unfolding after_frames passages_of_frames
frames-closed c [] s k e t = (refl, refl)
frames-closed c (packet ∷ packets) s k e t =
    let same = frame-closed c packet s k e t in
    let others = frames-closed c packets s k e t in
    let none = passages-closed c packet s k e t in (
      ap (λ (u : RelayState). after_frames c packets u) same ∙ others.0,
      ap (λ (l : List Passage). l ++ passages_of_frames c packets (after_frame c packet s)) none
          ∙ ap (λ (u : RelayState). passages_of_frames c packets u) same ∙ others.1,
    )

frames-own : (c : ℕ) (packets : List (List ℕ)) (s : RelayState) (k : RelayConnection) → connection_of c s.connections ≡ Some k
    → k.frames_taken ≤ length (frames_of k.received) → drop k.frames_taken (frames_of k.received) ≡ packets
    → Takes c s (after_frames c packets s) (passages_of_frames c packets s)
unfolding after_frames passages_of_frames
frames-own c [] s k e f left = takes-same c s s [] refl refl (subst (λ (o : Option RelayConnection). Fits (progress o)) (sym e) f)
frames-own c (packet ∷ packets) s k e f left = elim (cases_Bool k.closing) [
  | inl t ↦
      let all = frames-closed c (packet ∷ packets) s k e t in
      let P : RelayState → List Passage → Type 0 = λ u ps. Takes c s u ps in
      subst (λ (u : RelayState). P u (passages_of_frames c (packet ∷ packets) s)) (sym (all.0))
      (subst (P s) (sym (all.1)) (takes-same c s s [] refl refl (subst (λ (o : Option RelayConnection). Fits (progress o)) (sym e) f)))
  | inr t ↦
      let u = after_frame c packet s in
      let now = frame-own c packet s k e t in
      let l = told_by (connection_of c u.connections) k.received (k.frames_taken + 1) now in
      let frames = frames_of k.received in
      let longer : k.frames_taken + 1 ≤ length frames = omega (arith, length-drop k.frames_taken frames, ap (λ (l : List (List ℕ)). length l) left) in
      let behind : drop (k.frames_taken + 1) frames ≡ packets = sym (drop-drop 1 k.frames_taken frames) ∙ ap (λ (l : List (List ℕ)). drop 1 l) left in
      let one : take (k.frames_taken + 1) frames ≡ take k.frames_taken frames ++ packet ∷ [] =
      take-add k.frames_taken 1 frames ∙ ap (λ (l : List (List ℕ)). take k.frames_taken frames ++ take 1 l) left in
      let before : packets_in (progress_at c s) ≡ take k.frames_taken frames = ap (λ o. packets_in (progress o)) e in
      let first : packets_in (progress_at c u) ≡ packets_in (progress_at c s) ++ packets_from c (passages_of_frame c packet s) =
      ap packets_in now ∙ one ∙ ap (λ (x : List (List ℕ)). x ++ packet ∷ []) (sym before)
      ∙ ap (λ (x : List (List ℕ)). packets_in (progress_at c s) ++ x) (sym (packets-own c packet s k e t)) in
      let fits_l : l.connection.frames_taken ≤ length (frames_of l.connection.received) =
      subst (λ (r : List ℕ). l.connection.frames_taken ≤ length (frames_of r)) (sym l.received_is) (omega (arith, l.taken_is, longer)) in
      let left_l : drop l.connection.frames_taken (frames_of l.connection.received) ≡ packets =
      ap (λ (r : List ℕ). drop l.connection.frames_taken (frames_of r)) l.received_is ∙ ap (λ (n : ℕ). drop n frames) l.taken_is ∙ behind in
      takes-then c s u (after_frames c packets u) (passages_of_frame c packet s) (passages_of_frames c packets u) first
      (frames-own c packets u l.connection l.is fits_l left_l)
]

frames-other : (n c : ℕ) (packets : List (List ℕ)) (s : RelayState) → n ≢ c
    → (progress_at c (after_frames n packets s) ≡ progress_at c s) × (packets_from c (passages_of_frames n packets s) ≡ [])
unfolding after_frames passages_of_frames
frames-other n c [] s ne = (refl, refl)
frames-other n c (packet ∷ packets) s ne =
    let u = after_frame n packet s in
    let others = frames-other n c packets u ne in (
      others.0 ∙ frame-other n c packet s ne,
      packets_from-append c (passages_of_frame n packet s) (passages_of_frames n packets u)
          ∙ ap (λ (l : List (List ℕ)). l ++ packets_from c (passages_of_frames n packets u)) (packets-other n c packet s ne) ∙ others.1,
    )

rest-number : (k : RelayConnection) → (after_rest k).number ≡ k.number
rest-number k = elim (cases_Bool (is_broken (front_of (rest_of k.received)))) [ inl t ↦ rw t refl | inr t ↦ rw t refl ]

rest-progress : (k : RelayConnection) → progress (Some (after_rest k)) ≡ progress (Some k)
rest-progress k = elim (cases_Bool (is_broken (front_of (rest_of k.received)))) [ inl t ↦ rw t refl | inr t ↦ rw t refl ]

piece-own : (c : ℕ) (piece : List ℕ) (s : RelayState) → Fits (progress_at c s)
    → Takes c s (after_piece_of c piece s (connection_of c s.connections)) (passages_of_piece c piece s (connection_of c s.connections))
piece-own c piece s f = go (connection_of c s.connections) refl
  where
    go : (o : Option RelayConnection) → connection_of c s.connections ≡ o → Takes c s (after_piece_of c piece s o) (passages_of_piece c piece s o)
    go None e = takes-same c s s [] refl refl f
    go (Some k) e = elim (cases_Bool (is_deaf k)) [
      | inl t ↦ rw t (takes-same c s s [] refl refl f)
      | inr t ↦
          let l = with_received piece k in
          let packets = packets_left l in
          let u = at_connection c (with_received piece) s in
          let v = after_frames c packets u in
          let there : connection_of c u.connections ≡ Some l = changed-own c (with_received piece) (λ k. refl) s ∙ ap (option_map (with_received piece)) e in
          let g : k.frames_taken ≤ length (frames_of k.received) = subst (λ (o : Option RelayConnection). Fits (progress o)) e f in
          let grown = frames_of-append piece k.received in
          let more = frames_of (rest_of k.received ++ piece) in
          let fits_l : k.frames_taken ≤ length (frames_of (k.received ++ piece)) =
          omega (arith, g, ap (λ (x : List (List ℕ)). length x) grown, length-append (frames_of k.received) more) in
          let kept : packets_in (progress_at c u) ≡ packets_in (progress_at c s) =
          ap (λ o. packets_in (progress o)) there ∙ ap (λ (x : List (List ℕ)). take k.frames_taken x) grown
          ∙ take-append-le k.frames_taken (frames_of k.received) more g ∙ sym (ap (λ o. packets_in (progress o)) e) in
          let own = frames-own c packets u l there fits_l refl in
          let rest : progress_at c (at_connection c after_rest v) ≡ progress_at c v = change-keeps progress c c after_rest rest-number rest-progress v in
          rw t (record {
            packets = ap packets_in rest ∙ own.packets ∙ ap (λ (x : List (List ℕ)). x ++ packets_from c (passages_of_frames c packets u)) kept;
            fits = subst Fits (sym rest) own.fits;
          })
    ]

-- a piece of another connection leaves what came of one, and how many of its frames were taken
piece-leaves : (n d : ℕ) (piece : List ℕ) (k : RelayConnection) (s : RelayState) → n ≢ d
    → progress_at d (at_connection n after_rest (after_frames n (packets_left (with_received piece k)) (at_connection n (with_received piece) s)))
    ≡ progress_at d s
piece-leaves n d piece k s ne =
    let packets = packets_left (with_received piece k) in
    let u = at_connection n (with_received piece) s in
    change-keeps progress n d after_rest rest-number rest-progress (after_frames n packets u) ∙ (frames-other n d packets u ne).0
    ∙ ap progress (changed-other n d (with_received piece) (λ l. refl) ne s)

pub piece-progress : (n d : ℕ) (piece : List ℕ) (s : RelayState) → n ≢ d
    → progress_at d (after_piece_of n piece s (connection_of n s.connections)) ≡ progress_at d s
piece-progress n d piece s ne = go (connection_of n s.connections)
  where
    go : (o : Option RelayConnection) → progress_at d (after_piece_of n piece s o) ≡ progress_at d s
    go None = refl
    go (Some k) = elim (cases_Bool (is_deaf k)) [ inl t ↦ rw t refl | inr t ↦ rw t (piece-leaves n d piece k s ne) ]

piece-other : (n c : ℕ) (piece : List ℕ) (s : RelayState) → n ≢ c → Fits (progress_at c s)
    → Takes c s (after_piece_of n piece s (connection_of n s.connections)) (passages_of_piece n piece s (connection_of n s.connections))
piece-other n c piece s ne f = go (connection_of n s.connections)
  where
    go : (o : Option RelayConnection) → Takes c s (after_piece_of n piece s o) (passages_of_piece n piece s o)
    go None = takes-same c s s [] refl refl f
    go (Some k) = elim (cases_Bool (is_deaf k)) [
      | inl t ↦ rw t (takes-same c s s [] refl refl f)
      | inr t ↦
          let packets = packets_left (with_received piece k) in
          let u = at_connection n (with_received piece) s in
          let v = after_frames n packets u in
          rw t (takes-same c s (at_connection n after_rest v) (passages_of_frames n packets u)
          (piece-leaves n c piece k s ne) (frames-other n c packets u ne).1 f)
    ]

opened-takes : (c n : ℕ) (s : RelayState) → Fits (progress_at c s) → Takes c s (record s { connections = s.connections ++ fresh_connection None n ∷ [] }) []
unfolding connection_of
opened-takes c n s f =
    let P : Option RelayConnection → Type 0 = λ o. (packets_in (progress o) ≡ packets_in (progress_at c s) ++ []) × Fits (progress o) in
    let r = subst P (sym (connection_of-append c s.connections (fresh_connection None n ∷ []))) (go (connection_of c s.connections) f) in
    record { packets = r.0; fits = r.1 }
  where
    go : (o : Option RelayConnection) → Fits (progress o)
        → (packets_in (progress (or_else o (connection_of c (fresh_connection None n ∷ [])))) ≡ packets_in (progress o) ++ [])
        × Fits (progress (or_else o (connection_of c (fresh_connection None n ∷ []))))
    go (Some k) f = (sym (append-nil (packets_in (progress (Some k)))), f)
    go None f = elim (cases_Bool (n == c)) [ inl t ↦ rw t (refl, omega arith) | inr t ↦ rw t (refl, tt) ]

event-takes : (c : ℕ) (e : Event) (s : RelayState) → Fits (progress_at c s) → Takes c s (relay_after_event s e) (passages_of_event s e)
unfolding relay_after_event
event-takes c (event.Opened n) s f = opened-takes c n s f
event-takes c (event.Piece n piece) s f = elim (cases_eq n c) [
  | inl q ↦
      let P : ℕ → Type 0 = λ i. Takes c s (after_piece_of i piece s (connection_of i s.connections))
      (passages_of_piece i piece s (connection_of i s.connections)) in
      subst P (sym q) (piece-own c piece s f)
  | inr ne ↦ piece-other n c piece s ne f
]
event-takes c (event.Closed n) s f = takes-same c s _ [] (exchange-keeps progress n c with_gone with_gone-number (λ x. refl) s) refl f
event-takes c (event.Tick t) s f = takes-same c s s [] refl refl f
event-takes c (event.Reload text) s f = takes-same c s s [] refl refl f
event-takes c (event.Writable n) s f = takes-same c s s [] refl refl f

took-progress : (n : ℕ) (x : Exchange RelayWorld Owned) → progress (Some (with_took n x).connection) ≡ progress (Some x.connection)
took-progress n x = elim (cases_Bool x.connection.gone) [ inl t ↦ rw t refl | inr t ↦ rw t refl ]

move-takes : (c : ℕ) (m : Move) (s : RelayState) → Fits (progress_at c s) → Takes c s (state_after_move relay_after_event s m) (passages_of_move s m)
unfolding state_after_move
move-takes c (move.Event e) s f = event-takes c e s f
move-takes c (move.Took n offered bytes) s f =
    takes-same c s _ [] (exchange-keeps progress n c (with_took (length bytes)) (with_took-number (length bytes)) (took-progress (length bytes)) s) refl f
move-takes c (move.Lost n) s f = takes-same c s _ [] (exchange-keeps progress n c with_gone with_gone-number (λ x. refl) s) refl f
move-takes c (move.Shut n) s f = takes-same c s _ [] (exchange-keeps progress n c with_gone with_gone-number (λ x. refl) s) refl f

log-takes : (c : ℕ) (log : List Move) (s : RelayState) → Fits (progress_at c s) → Takes c s (state_after relay_after_event s log) (passages_of s log)
unfolding state_after passages_of
log-takes c [] s f = takes-same c s s [] refl refl f
log-takes c (m ∷ ms) s f =
    let u = state_after_move relay_after_event s m in
    let first = move-takes c m s f in
    takes-then c s u (state_after relay_after_event u ms) (passages_of_move s m) (passages_of u ms) first.packets (log-takes c ms u first.fits)

taken-packets : (o : Option RelayConnection) → packets_taken o ≡ packets_in (progress o)
taken-packets None = refl
taken-packets (Some k) = refl

pub takes_in_order : TakesInOrder
unfolding connection_of
takes_in_order description c log =
    let end = state_after relay_after_event (relay_start description) log in
    sym (log-takes c log (relay_start description) tt).packets ∙ sym (taken-packets (connection_of c end.connections))
