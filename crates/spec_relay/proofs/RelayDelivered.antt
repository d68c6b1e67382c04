-- An event of the relay only adds to what connections are given.
use Rattle.std.proofs.Common.{◌≡◌, ℕ, List, [], ◌∷◌, ◌++◌, map, refl, sym, subst, ◌∙◌, ap, inl, inr, Bool, true, false, cond, ◌≢◌}
use Rattle.std.specs.Prelude.{Option, Some, None, option_map, flat_map, ◌==◌}
use Rattle.std.proofs.lemmas.Bool.{cases_Bool, or_parts, eq-eqb, false≢true, cond_both, cond-false}
use Rattle.std.proofs.lemmas.Grind.{flat_map-append}
use Rattle.spec_frames.specs.Division.{is_broken, front_of, rest_of}
use Rattle.ads_outside.specs.declared.event.Event.{Event}
use Rattle.ads_outside.specs.declared.event.Event.TheVariants as event
use Rattle.ads_outside.specs.declared.moves.Move.TheVariants as move
use Rattle.spec_formats.specs.Header.{header_of}
use Rattle.spec_machine.specs.Device.{Produced}
use Rattle.spec_machine.specs.Connection.{connection_of, is_deaf, fits, bytes_of, bytes_of_all, produce, fresh_connection}
use Rattle.spec_machine.specs.Piece.{with_received, packets_left, with_one_taken, after_rest}
use Rattle.spec_machine.specs.Moves.{with_gone}
use Rattle.spec_machine.proofs.Changes.{with_gone-number}
use Rattle.spec_machine.proofs.Find.{or_else, connection_of-append}
use Rattle.spec_relay.specs.RelayState.{RelayWorld, Owned, RelayConnection, RelayState, relay_start}
use Rattle.spec_relay.specs.Routing.{delivered, at_connection, with_frame_taken, after_frame_of, after_frame}
use Rattle.spec_relay.specs.RelayMoves.{after_frames, after_piece_of, relay_after_event}
use Rattle.spec_relay.specs.Passages.{passages_of_event}
use Rattle.spec_relay.specs.PassedOn.{all_frames_to}
use Rattle.spec_relay.specs.RelayLaws.{frames_given, RelayOnlyAdds, RelayKeepsThere, RelayDelivers, RelayDeliversAll}
use Rattle.spec_machine.specs.Delivery.{AddsTo, PassesOn}
use Rattle.spec_relay.proofs.ChangeLemmas.{exchange-keeps, change-keeps}
use Rattle.spec_relay.proofs.GivenLemmas.{event-frames}
use Rattle.spec_relay.proofs.KeptLemmas.{IsKeptByFrames, header-seen}
use Rattle.spec_machine.proofs.TurnsKept.{offers_kept, takes_output}
use Rattle.spec_machine.proofs.AllTaken.{takes_all}
use Rattle.spec_machine.specs.Offers.{left_after, not_taken}
use Rattle.spec_machine.specs.Delivery.{is_cut_off}
use Rattle.spec_machine.proofs.Changes.{exchange_other}

-- a view of a connection that nothing but a move of its own changes
pub record IsKept {V : Type 0} (view : Option RelayConnection → V) : Type 0 where
  pub frames : IsKeptByFrames view
  pub taken : (k : RelayConnection) → view (Some (with_one_taken k)) ≡ view (Some k)
  pub received : (piece : List ℕ) (k : RelayConnection) → view (Some (with_received piece k)) ≡ view (Some k)
  pub rest : (k : RelayConnection) → view (Some (after_rest k)) ≡ view (Some k)

module _ {V : Type 0} (view : Option RelayConnection → V) (kept : IsKept view) (d : ℕ) where
  abbrev pub seen : RelayState → V
  seen s = view (connection_of d s.connections)

  frame_of-seen : (c : ℕ) (packet : List ℕ) (s : RelayState) (o : Option RelayConnection) → seen (after_frame_of c packet s o) ≡ seen s
  frame_of-seen c packet s None = refl
  frame_of-seen c packet s (Some k) = elim (cases_Bool k.closing) [
    | inl t ↦ rw t refl
    | inr t ↦ rw t (header-seen view kept.frames d c packet k (with_frame_taken c s) (header_of packet)
        ∙ change-keeps view c d with_one_taken (λ k. refl) kept.taken s)
  ]

  pub frame-seen : (c : ℕ) (packet : List ℕ) (s : RelayState) → seen (after_frame c packet s) ≡ seen s
  unfolding after_frame
  frame-seen c packet s = frame_of-seen c packet s (connection_of c s.connections)

  frames-seen : (c : ℕ) (packets : List (List ℕ)) (s : RelayState) → seen (after_frames c packets s) ≡ seen s
  unfolding after_frames
  frames-seen c [] s = refl
  frames-seen c (packet ∷ packets) s = frames-seen c packets (after_frame c packet s) ∙ frame-seen c packet s

  rest-number : (k : RelayConnection) → (after_rest k).number ≡ k.number
  rest-number k = elim (cases_Bool (is_broken (front_of (rest_of k.received)))) [ inl t ↦ rw t refl | inr t ↦ rw t refl ]

  pub piece-seen : (n : ℕ) (piece : List ℕ) (s : RelayState) (o : Option RelayConnection) → seen (after_piece_of n piece s o) ≡ seen s
  piece-seen n piece s None = refl
  piece-seen n piece s (Some k) = elim (cases_Bool (is_deaf k)) [
    | inl t ↦ rw t refl
    | inr t ↦
        let u = at_connection n (with_received piece) s in
        let packets = packets_left (with_received piece k) in
        rw t (change-keeps view n d after_rest rest-number kept.rest (after_frames n packets u) ∙ frames-seen n packets u
        ∙ change-keeps view n d (with_received piece) (λ k. refl) (kept.received piece) s)
  ]

-- how many bytes a connection took, where it is there
abbrev took_of : Option RelayConnection → Option ℕ
took_of o = option_map (λ (k : RelayConnection). k.bytes_taken) o

abbrev took_at : ℕ → RelayState → Option ℕ
took_at d s = took_of (connection_of d s.connections)

-- whether it is gone
abbrev pub gone_of : Option RelayConnection → Option Bool
gone_of o = option_map (λ (k : RelayConnection). k.gone) o

produce-both : (frame : Produced) (k : RelayConnection)
    → (took_of (Some (produce frame k)) ≡ took_of (Some k)) × (gone_of (Some (produce frame k)) ≡ gone_of (Some k))
unfolding produce
produce-both frame k = elim (cases_Bool k.closing) [
  | inl c ↦ rw c (refl, refl)
  | inr c ↦ rw c (elim (cases_Bool (fits frame k)) [ inl f ↦ rw f (refl, refl) | inr f ↦ rw f (refl, refl) ])
]

delivered-both : (frame : Produced) (k : RelayConnection)
    → (took_of (Some (delivered frame k)) ≡ took_of (Some k)) × (gone_of (Some (delivered frame k)) ≡ gone_of (Some k))
delivered-both frame k = cond_both k.gone k (produce frame k)
    (λ (l : RelayConnection). (took_of (Some l) ≡ took_of (Some k)) × (gone_of (Some l) ≡ gone_of (Some k))) (λ g. (refl, refl)) (λ g. produce-both frame k)

rest-both : (k : RelayConnection) → (took_of (Some (after_rest k)) ≡ took_of (Some k)) × (gone_of (Some (after_rest k)) ≡ gone_of (Some k))
rest-both k = elim (cases_Bool (is_broken (front_of (rest_of k.received)))) [ inl t ↦ rw t (refl, refl) | inr t ↦ rw t (refl, refl) ]

took-kept : IsKept took_of
took-kept = record {
  frames = record { given = λ frame k. (delivered-both frame k).0; closed = λ k. refl; client = λ client k. refl };
  taken = λ k. refl;
  received = λ piece k. refl;
  rest = λ k. (rest-both k).0;
}

pub gone-kept : IsKept gone_of
gone-kept = record {
  frames = record { given = λ frame k. (delivered-both frame k).1; closed = λ k. refl; client = λ client k. refl };
  taken = λ k. refl;
  received = λ piece k. refl;
  rest = λ k. (rest-both k).1;
}

-- an event leaves what a connection took; a connection that comes took nothing
abbrev Stays : Option ℕ → Option ℕ → Type 0
Stays None None = Unit {0}
Stays None (Some n) = n ≡ 0
Stays (Some m) o = o ≡ Some m

stays-same : (o p : Option ℕ) → p ≡ o → Stays o p
stays-same None p e = subst (Stays None) (sym e) tt
stays-same (Some m) p e = e

opened-took : (d n : ℕ) (s : RelayState) → Stays (took_at d s) (took_of (connection_of d (s.connections ++ fresh_connection None n ∷ [])))
unfolding connection_of
opened-took d n s = subst (λ o. Stays (took_at d s) (took_of o))
    (sym (connection_of-append d s.connections (fresh_connection None n ∷ []))) (go (connection_of d s.connections))
  where
    go : (o : Option RelayConnection) → Stays (took_of o) (took_of (or_else o (connection_of d (fresh_connection None n ∷ []))))
    go (Some k) = refl
    go None = elim (cases_Bool (n == d)) [ inl t ↦ rw t refl | inr t ↦ rw t tt ]

event-took : (d : ℕ) (e : Event) (s : RelayState) → Stays (took_at d s) (took_at d (relay_after_event s e))
unfolding relay_after_event
event-took d (event.Opened n) s = opened-took d n s
event-took d (event.Piece n piece) s =
    stays-same (took_at d s) (took_at d (after_piece_of n piece s (connection_of n s.connections)))
    (piece-seen took_of took-kept d n piece s (connection_of n s.connections))
event-took d (event.Closed n) s = stays-same (took_at d s) _ (exchange-keeps took_of n d with_gone with_gone-number (λ x. refl) s)
event-took d (event.Tick t) s = stays-same (took_at d s) (took_at d s) refl
event-took d (event.Reload text) s = stays-same (took_at d s) (took_at d s) refl
event-took d (event.Writable n) s = stays-same (took_at d s) (took_at d s) refl

-- all bytes of frames
abbrev all_of : List (List ℕ) → List ℕ
all_of frames = flat_map (λ (f : List ℕ). f) frames

all_of-bytes : (produced : List Produced) → all_of (map bytes_of produced) ≡ bytes_of_all produced
all_of-bytes [] = refl
all_of-bytes (f ∷ fs) = ap (λ (l : List ℕ). bytes_of f ++ l) (all_of-bytes fs)

adds-there : (c : ℕ) (e : Event) (s : RelayState) (k : RelayConnection) → connection_of c s.connections ≡ Some k → (o : Option RelayConnection)
    → connection_of c (relay_after_event s e).connections ≡ o → AddsTo (Some k) o
adds-there c e s k is None now =
    let bytes_taken : Stays (Some k.bytes_taken) None =
    subst (λ p. Stays (Some k.bytes_taken) (took_of p)) now (subst (λ p. Stays (took_of p) (took_at c (relay_after_event s e))) is (event-took c e s)) in
    absurd (let x : None ≡ Some k.bytes_taken = bytes_taken in cc)
adds-there c e s k is (Some l) now =
    let bytes_taken : Stays (Some k.bytes_taken) (Some l.bytes_taken) =
    subst (λ p. Stays (Some k.bytes_taken) (took_of p)) now (subst (λ p. Stays (took_of p) (took_at c (relay_after_event s e))) is (event-took c e s)) in
    let same : l.bytes_taken ≡ k.bytes_taken = (let x : Some l.bytes_taken ≡ Some k.bytes_taken = bytes_taken in cc) in
    let more = all_frames_to c (passages_of_event s e) in
    let frames : map bytes_of l.produced ≡ map bytes_of k.produced ++ more =
    sym (ap frames_given now) ∙ event-frames c e s ∙ ap (λ o. frames_given o ++ more) is in
    record {
      more = all_of more;
      given = sym (all_of-bytes l.produced) ∙ ap all_of frames ∙ flat_map-append (λ (f : List ℕ). f) (map bytes_of k.produced) more
          ∙ ap (λ (x : List ℕ). x ++ all_of more) (all_of-bytes k.produced);
      bytes_taken = same;
    }

adds-absent : (c : ℕ) (e : Event) (s : RelayState) → connection_of c s.connections ≡ None → (o : Option RelayConnection)
    → connection_of c (relay_after_event s e).connections ≡ o → AddsTo None o
adds-absent c e s is None now = tt
adds-absent c e s is (Some l) now =
    subst (λ p. Stays None (took_of p)) now (subst (λ p. Stays (took_of p) (took_at c (relay_after_event s e))) is (event-took c e s))

pub relay_only_adds : RelayOnlyAdds
relay_only_adds s e c = go (connection_of c s.connections) refl
  where
    go : (o : Option RelayConnection) → connection_of c s.connections ≡ o → AddsTo o (connection_of c (relay_after_event s e).connections)
    go None is = adds-absent c e s is (connection_of c (relay_after_event s e).connections) refl
    go (Some k) is = adds-there c e s k is (connection_of c (relay_after_event s e).connections) refl

pub relay_delivers : RelayDelivers
relay_delivers description c log turns =
    takes_output RelayWorld Owned relay_after_event _ c log relay_only_adds (offers_kept relay_after_event (relay_start description) log turns)

-- what a connection that is gone has not taken
abbrev left_when_gone : Option RelayConnection → List (List ℕ)
left_when_gone None = []
left_when_gone (Some k) = cond k.gone (not_taken (Some k)) []

delivered-left : (frame : Produced) (k : RelayConnection) → left_when_gone (Some (delivered frame k)) ≡ left_when_gone (Some k)
delivered-left frame k = cond_both k.gone k (produce frame k) (λ (l : RelayConnection). left_when_gone (Some l) ≡ left_when_gone (Some k)) (λ g. refl)
    (λ g. let x : Some (produce frame k).gone ≡ Some k.gone = (produce-both frame k).1 in
    let still : (produce frame k).gone ≡ k.gone = cc in
    cond-false (produce frame k).gone (not_taken (Some (produce frame k))) [] (still ∙ g) ∙ sym (cond-false k.gone (not_taken (Some k)) [] g))

rest-left : (k : RelayConnection) → left_when_gone (Some (after_rest k)) ≡ left_when_gone (Some k)
rest-left k = elim (cases_Bool (is_broken (front_of (rest_of k.received)))) [ inl t ↦ rw t refl | inr t ↦ rw t refl ]

left-kept : IsKept left_when_gone
left-kept = record {
  frames = record { given = delivered-left; closed = λ k. refl; client = λ client k. refl };
  taken = λ k. refl;
  received = λ piece k. refl;
  rest = rest-left;
}

passes_from : (o p : Option RelayConnection) → gone_of p ≡ gone_of o → left_when_gone p ≡ left_when_gone o → PassesOn o p
passes_from None None gone left = inl refl
passes_from None (Some l) gone left = absurd (let x : Some l.gone ≡ None = gone in cc)
passes_from (Some k) None gone left = absurd (let x : None ≡ Some k.gone = gone in cc)
passes_from (Some k) (Some l) gone left =
    let same : l.gone ≡ k.gone = (let x : Some l.gone ≡ Some k.gone = gone in cc) in
    elim (cases_Bool k.gone) [
      | inr g ↦ inr (l, refl, same ∙ g)
      | inl g ↦
          let now : l.gone ≡ true = same ∙ g in
          inl (sym (ap (λ (b : Bool). cond b (not_taken (Some l)) []) now) ∙ left ∙ ap (λ (b : Bool). cond b (not_taken (Some k)) []) g)
    ]

opened-passes : (c n : ℕ) (ks : List RelayConnection) → PassesOn (connection_of c ks) (connection_of c (ks ++ fresh_connection None n ∷ []))
unfolding connection_of left_after
opened-passes c n ks = subst (PassesOn (connection_of c ks)) (sym (connection_of-append c ks (fresh_connection None n ∷ []))) (one (connection_of c ks))
  where
    one : (o : Option RelayConnection) → PassesOn o (or_else o (connection_of c (fresh_connection None n ∷ [])))
    one (Some k) = inl refl
    one None = elim (cases_Bool (n == c)) [ inl b ↦ rw b (inl refl) | inr b ↦ rw b (inl refl) ]

event-passes : (s : RelayState) (e : Event) (c : ℕ) → is_cut_off c (move.Event e ∷ []) ≡ false
    → PassesOn (connection_of c s.connections) (connection_of c (relay_after_event s e).connections)
unfolding relay_after_event is_cut_off
event-passes s (event.Opened n) c cut = opened-passes c n s.connections
event-passes s (event.Piece n piece) c cut =
    passes_from (connection_of c s.connections) (connection_of c (after_piece_of n piece s (connection_of n s.connections)).connections)
    (piece-seen gone_of gone-kept c n piece s (connection_of n s.connections)) (piece-seen left_when_gone left-kept c n piece s (connection_of n s.connections))
event-passes s (event.Closed n) c cut =
    let t = (or_parts (n == c) false cut).0 in
    let ne : n ≢ c = λ e. false≢true (sym t ∙ eq-eqb n c e) in
    let same = exchange_other c n with_gone with_gone-number ne s in
    passes_from (connection_of c s.connections) _ (ap gone_of same) (ap left_when_gone same)
event-passes s (event.Tick t) c cut = passes_from (connection_of c s.connections) (connection_of c s.connections) refl refl
event-passes s (event.Reload text) c cut = passes_from (connection_of c s.connections) (connection_of c s.connections) refl refl
event-passes s (event.Writable n) c cut = passes_from (connection_of c s.connections) (connection_of c s.connections) refl refl

pub relay_keeps_there : RelayKeepsThere
relay_keeps_there s e c cut = event-passes s e c cut

pub relay_delivers_all : RelayDeliversAll
relay_delivers_all description c log turns whole cut =
    takes_all RelayWorld Owned relay_after_event _ c log relay_only_adds relay_keeps_there turns whole cut
