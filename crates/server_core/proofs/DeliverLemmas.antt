-- Frames of samples that connections give, produced connection after connection.
use Rattle.std.proofs.Common.{◌≡◌, ℕ, zero, suc, ◌+◌, ◌<◌, List, [], ◌∷◌, ◌++◌, length, take, drop, map, set, get_or}
use Rattle.std.proofs.Common.{Bool, true, false, not, cond, refl, sym, ap, ◌∙◌, subst, inl, inr, arith}
use Rattle.std.specs.Prelude.{◌&&◌, sum_by, All, slice_get, option_map, Some}
use Rattle.std.proofs.lemmas.Bool.{cases_Bool, cond-true, cond-false, or_left, or_right, or_from}
use Rattle.std.proofs.lemmas.Grind.{drop_more_same}
use Rattle.std.proofs.lemmas.List.{drop-set-lt, map-set}
use Rattle.std.proofs.lemmas.List.Elements.{All-head, All-tail}
use Rattle.std.proofs.lemmas.Option.{slice_get-get_or, slice_get-map}
use Rattle.std.proofs.Math.Seq.{map-set_same}
use Rattle.std.proofs.lemmas.List.Sums.{sum_by-cons}
use Rattle.spec_plant.specs.World.{Plant}
use Rattle.spec_machine.specs.Device.{Produced}
use Rattle.spec_machine.specs.Connection.{is_deaf, produce, produce_all}
use Rattle.spec_machine.specs.Piece.{with_client}
use Rattle.spec_machine.specs.Summary.{count_of}
use Rattle.connections.specs.Carries.{EachBeside, EachMarked, EachOutlet, IsOutlet}
use Rattle.connections.specs.Outlets.{Outlets, change_at, given, has_room, is_fitting, outlet_at, test_in}
use Rattle.connections.specs.declared.outlet.Outlet.{Outlet}
use Rattle.connections.proofs.GivenLemmas.{given_closing as given_closing_outlet}
use Rattle.connections.proofs.OutletLemmas.{change_same, change_twice, outlet_changed}
use Rattle.connections.proofs.OutputLemmas.{given_mark}
use Rattle.session.specs.NoteFrames.{produced_of, IsNoteFrame}
use Rattle.session.specs.SessionState.{SessionState}
use Rattle.session.specs.declared.notes.NoteFrame.{NoteFrame}
use Rattle.server_core.specs.declared.summary.Summary.{Summary}
use Rattle.server_core.specs.declared.turned.Turned.{Turned}
use Rattle.server_core.specs.Served.{ServedConnection}
use Rattle.server_core.specs.ServerView.{sessions_of}
use Rattle.server_core.specs.Counts.{Counts, Grows, replies_of, samples_of}
use Rattle.server_core.specs.Delivering.{Delivery, Gives, Outcomes, after_given, delivered}
use Rattle.server_core.specs.Delivering.{delivered_all, delivered_each, more_samples, frames_given, DeliversAt}
use Rattle.server_core.proofs.CountLemmas.{same_count, same_counts, then_counts}
use Rattle.server_core.proofs.ProduceLemmas.{produces, produce-stream}
use Rattle.server_core.proofs.TakingLemmas.{counts_client}

-- The code: one frame more, and one session more.

-- what stands at a place takes its own
put_itself : (es : Outlets) (i : ℕ) (o : Outlet) → outlet_at es i ≡ Some o → es ≡ change_at (λ _. o) i es
put_itself [] i o there = refl
put_itself (e ∷ es) zero o there = (let same : e.1 ≡ o = cc in ap (λ (p : Outlet). (e.0, p) ∷ es) same)
put_itself (e ∷ es) (suc i) o there = ap (λ fs. e ∷ fs) (put_itself es i o there)

-- a frame was given
pub delivers_one : (es fs : Outlets) (i : ℕ) (o : Outlet) (note : NoteFrame) (frame : List ℕ) (s t : Summary) (waits : Bool) → frame ≡ note.frame
    → fs ≡ change_at (given frame) i es → waits ≡ test_in (is_fitting frame) (outlet_at es i)
    → t ≡ cond waits (more_samples note.samples s) s → outlet_at es i ≡ Some o → DeliversAt i (delivered note (o, s)) es fs t
delivers_one es fs i o note frame s t waits own put fitted counts there =
    let fits : waits ≡ is_fitting note.frame o =
    fitted ∙ ap (λ bs. test_in (is_fitting bs) (outlet_at es i)) own ∙ ap (test_in (is_fitting note.frame)) there in
    record {
      outlets = put ∙ ap (λ bs. change_at (given bs) i es) own ∙ change_same (given note.frame) (λ _. given note.frame o) es i o there refl;
      counted = counts ∙ ap (λ b. cond b (more_samples note.samples s) s) fits;
    }

pub delivers_none : (es : Outlets) (i : ℕ) (o : Outlet) (s : Summary) → outlet_at es i ≡ Some o → DeliversAt i (o, s) es es s
delivers_none es i o s there = record { outlets = put_itself es i o there; counted = refl }

-- one more of them
pub delivered_all-more : (fs : List NoteFrame) (f : NoteFrame) (d : Delivery) → delivered_all (fs ++ f ∷ []) d ≡ delivered f (delivered_all fs d)
delivered_all-more [] f d = refl
delivered_all-more (g ∷ gs) f d = delivered_all-more gs f (delivered g d)

-- one frame more is given behind others
pub delivers_more : (es fs gs : Outlets) (i : ℕ) (o : Outlet) (d : Delivery) (note : NoteFrame) (t u : Summary) → outlet_at es i ≡ Some o
    → DeliversAt i d es fs t → ((p : Outlet) → outlet_at fs i ≡ Some p → DeliversAt i (delivered note (p, t)) fs gs u)
    → DeliversAt i (delivered note d) es gs u
delivers_more es fs gs i o d note t u there first second =
    let here : outlet_at fs i ≡ Some d.0 = ap (λ xs. outlet_at xs i) first.outlets ∙ outlet_changed (λ _. d.0) es i o there in
    let one = second d.0 here in
    let same : delivered note (d.0, t) ≡ delivered note d = ap (λ (s : Summary). delivered note (d.0, s)) first.counted in
    record {
      outlets = one.outlets ∙ ap (λ (e : Delivery). change_at (λ _. e.0) i fs) same
          ∙ ap (λ xs. change_at (λ _. (delivered note d).0) i xs) first.outlets ∙ change_twice (λ _. d.0) (λ _. (delivered note d).0) es i;
      counted = one.counted ∙ ap (λ (e : Delivery). e.1) same;
    }

-- the frames of one session more
pub record EachMore (fss : List (List NoteFrame)) (es : Outlets) (s : Summary) (i : ℕ) (fs : List NoteFrame) (o : Outlet) : Type 0 where
  pub there : outlet_at (delivered_each (take i fss) es s).0 i ≡ Some o
  pub outlets : (delivered_each (take (suc i) fss) es s).0
      ≡ change_at (λ _. (delivered_all fs (o, (delivered_each (take i fss) es s).1)).0) i (delivered_each (take i fss) es s).0
  pub counted : (delivered_each (take (suc i) fss) es s).1 ≡ (delivered_all fs (o, (delivered_each (take i fss) es s).1)).1

pub each_more : (fss : List (List NoteFrame)) (es : Outlets) (s : Summary) (i : ℕ) (fs : List NoteFrame) (o : Outlet)
    → slice_get fss i ≡ Some fs → outlet_at es i ≡ Some o → EachMore fss es s i fs o
each_more [] es s i fs o frames there = absurd (cc)
each_more (gs ∷ fss) [] s i fs o frames there = absurd (cc)
each_more (gs ∷ fss) (e ∷ es) s zero fs o frames there =
    let same : gs ≡ fs = cc in
    let here : e.1 ≡ o = cc in
    let d : delivered_all gs (e.1, s) ≡ delivered_all fs (o, s) =
    ap (λ (hs : List NoteFrame). delivered_all hs (e.1, s)) same ∙ ap (λ (p : Outlet). delivered_all fs (p, s)) here in
    record {
      there = there;
      outlets = ap (λ (x : Delivery). (e.0, x.0) ∷ es) d;
      counted = ap (λ (x : Delivery). x.1) d;
    }
each_more (gs ∷ fss) (e ∷ es) s (suc i) fs o frames there =
    let d = delivered_all gs (e.1, s) in
    let rest = each_more fss es d.1 i fs o frames there in
    record {
      there = rest.there;
      outlets = ap (λ xs. (e.0, d.0) ∷ xs) rest.outlets;
      counted = rest.counted;
    }

-- as far as this, and one session more
pub delivers_each : (fss : List (List NoteFrame)) (es fs gs : Outlets) (s t u : Summary) (i : ℕ) (f : List NoteFrame) (o : Outlet)
    → slice_get fss i ≡ Some f → outlet_at es i ≡ Some o
    → fs ≡ (delivered_each (take i fss) es s).0 → t ≡ (delivered_each (take i fss) es s).1
    → ((p : Outlet) → outlet_at fs i ≡ Some p → DeliversAt i (delivered_all f (p, t)) fs gs u)
    → (gs ≡ (delivered_each (take (suc i) fss) es s).0) × (u ≡ (delivered_each (take (suc i) fss) es s).1)
delivers_each fss es fs gs s t u i f o frames there so_far counts delivers =
    let more = each_more fss es s i f o frames there in
    let before = delivered_each (take i fss) es s in
    let one = delivers o (ap (λ xs. outlet_at xs i) so_far ∙ more.there) in
    let d : delivered_all f (o, t) ≡ delivered_all f (o, before.1) = ap (λ (c : Summary). delivered_all f (o, c)) counts in (
      one.outlets ∙ ap (λ (x : Delivery). change_at (λ _. x.0) i fs) d
          ∙ ap (λ xs. change_at (λ _. (delivered_all f (o, before.1)).0) i xs) so_far ∙ sym more.outlets,
      one.counted ∙ ap (λ (x : Delivery). x.1) d ∙ sym more.counted,
    )

-- the step of the loop over all sessions
get_dropped : {X : Type 0} (xs : List X) (i : ℕ) → slice_get xs i ≡ slice_get (drop i xs) 0
get_dropped [] zero = refl
get_dropped [] (suc i) = refl
get_dropped (x ∷ xs) zero = refl
get_dropped (x ∷ xs) (suc i) = get_dropped xs i

outlet_there : (es : Outlets) (i : ℕ) → i < length es → (o : Outlet) × (outlet_at es i ≡ Some o)
outlet_there [] i below = absurd (omega (arith, below))
outlet_there (e ∷ es) zero below = (e.1, refl)
outlet_there (e ∷ es) (suc i) below = outlet_there es i (omega (arith, below))

pub record DeliverStep (ts vs : List Turned) (es gs : Outlets) (s u : Summary) (i : ℕ) : Type 0 where
  pub left : drop (i + 1) (frames_given vs) ≡ drop (i + 1) (frames_given ts)
  pub sessions : sessions_of vs ≡ sessions_of ts
  pub outlets : gs ≡ (delivered_each (take (i + 1) (frames_given ts)) es s).0
  pub counted : u ≡ (delivered_each (take (i + 1) (frames_given ts)) es s).1

pub deliver_step : (ts us : List Turned) (es fs gs : Outlets) (s t u : Summary) (i : ℕ) (a b : Turned) (frames : List NoteFrame)
    → i < length us → length us ≡ length ts → length ts ≡ length es
    → a ≡ get_or us i a → b.session ≡ a.session → frames ≡ a.out
    → drop i (frames_given us) ≡ drop i (frames_given ts) → sessions_of us ≡ sessions_of ts
    → fs ≡ (delivered_each (take i (frames_given ts)) es s).0 → t ≡ (delivered_each (take i (frames_given ts)) es s).1
    → ((p : Outlet) → outlet_at fs i ≡ Some p → DeliversAt i (delivered_all frames (p, t)) fs gs u)
    → DeliverStep ts (set us i b) es gs s u i
deliver_step ts us es fs gs s t u i a b frames below many aligned read same own left sessions so_far counts delivers =
    let out : Turned → List NoteFrame = λ x. x.out in
    let session : Turned → SessionState = λ x. x.session in
    let o = outlet_there es i (omega (arith, below, many, aligned)) in
    let mine : slice_get (frames_given us) i ≡ Some frames =
    slice_get-map out us i ∙ ap (option_map out) (slice_get-get_or us i a below) ∙ ap (λ (x : Turned). Some x.out) (sym read)
    ∙ ap (λ (xs : List NoteFrame). Some xs) (sym own) in
    let here : slice_get (frames_given ts) i ≡ Some frames =
    get_dropped (frames_given ts) i ∙ sym (ap (λ (xs : List (List NoteFrame)). slice_get xs 0) left) ∙ sym (get_dropped (frames_given us) i) ∙ mine in
    let each = delivers_each (frames_given ts) es fs gs s t u i frames o.0 here o.1 so_far counts delivers in
    let next : suc i ≡ i + 1 = omega arith in
    record {
      left = ap (λ (xs : List (List NoteFrame)). drop (i + 1) xs) (map-set out us i b) ∙ drop-set-lt (i + 1) (frames_given us) i b.out (omega arith)
          ∙ drop_more_same (frames_given us) (frames_given ts) i left;
      sessions = map-set_same session us i b a (same ∙ ap session read) ∙ sessions;
      outlets = subst (λ (n : ℕ). gs ≡ (delivered_each (take n (frames_given ts)) es s).0) next each.0;
      counted = subst (λ (n : ℕ). u ≡ (delivered_each (take n (frames_given ts)) es s).1) next each.1;
    }

-- The machine: what the frames leave of one connection, and of all.

-- frames that are produced one after another
pub record Delivers (d : Delivery) (s : Summary) (frames : List Produced) (k : ServedConnection) : Type 0 where
  pub stands : IsOutlet d.0 (produce_all frames k)
  pub counted : Counts s d.1 k (produce_all frames k)

pub delivered_stands : (fs : List NoteFrame) → All IsNoteFrame fs → (o : Outlet) (s : Summary) (k : ServedConnection) → IsOutlet o k
    → Delivers (delivered_all fs (o, s)) s (map produced_of fs) k
unfolding produce_all
delivered_stands [] fit o s k st = record { stands = st; counted = same_counts s k }
delivered_stands (f ∷ fs) fit o s k st =
    let one = produces o s k (produced_of f) st (All-head IsNoteFrame f fs fit).some in
    let d = delivered f (o, s) in
    let rest = delivered_stands fs (All-tail IsNoteFrame f fs fit) d.0 d.1 (produce (produced_of f) k) one.stands in
    record {
      stands = rest.stands;
      counted = then_counts s d.1 (delivered_all fs d).1 k (produce (produced_of f) k) (produce_all (map produced_of fs) (produce (produced_of f) k))
          one.counted rest.counted;
    }

-- nothing waits of what is given to one that is closing
pub delivered-closing : (fs : List NoteFrame) (o : Outlet) (s : Summary) → o.closing ≡ true → delivered_all fs (o, s) ≡ (o, s)
delivered-closing [] o s closing = refl
delivered-closing (f ∷ fs) o s closing =
    let none : is_fitting f.frame o ≡ false = ap (λ b. not b && has_room f.frame o) closing in
    let same : delivered f (o, s) ≡ (o, s) =
    ap (λ (p : Outlet). (p, cond (is_fitting f.frame o) (more_samples f.samples s) s)) (sym (given_closing_outlet f.frame o closing))
    ∙ ap (λ b. (o, cond b (more_samples f.samples s) s)) none in
    ap (λ d. delivered_all fs d) same ∙ delivered-closing fs o s closing

-- one connection after it is asked and its frames are produced
pub given_closing : (outcome : Outcomes) (k : ServedConnection) → k.closing ≡ true → after_given outcome k ≡ k
given_closing outcome k closing = cond-true (is_deaf k) k _ (or_left k.closing k.gone closing)

pub given_open : (outcome : Outcomes) (k : ServedConnection) → k.closing ≡ false → k.gone ≡ false
    → after_given outcome k ≡ produce_all (outcome k.client).frames (with_client (outcome k.client).client k)
given_open outcome k is_open there = cond-false (is_deaf k) k _ (or_from k.closing k.gone is_open there)

-- what frames of samples leave of a connection
pub record KeepsPlace (k l : ServedConnection) : Type 0 where
  pub number : l.number ≡ k.number
  pub gone : l.gone ≡ k.gone

produced_keeps : (frames : List Produced) (k : ServedConnection) → KeepsPlace k (produce_all frames k)
unfolding produce_all
produced_keeps [] k = record { number = refl; gone = refl }
produced_keeps (f ∷ fs) k =
    let one = produce-stream f k in
    let rest = produced_keeps fs (produce f k) in
    record { number = rest.number ∙ one.number; gone = rest.gone ∙ one.gone }

pub given_keeps : (outcome : Outcomes) (k : ServedConnection) → KeepsPlace k (after_given outcome k)
given_keeps outcome k = elim (cases_Bool (is_deaf k)) [
  | inl deaf ↦
      let same = cond-true (is_deaf k) k (produce_all (outcome k.client).frames (with_client (outcome k.client).client k)) deaf in
      subst (λ l. KeepsPlace k l) (sym same) (record { number = refl; gone = refl })
  | inr hears ↦
      let same = cond-false (is_deaf k) k (produce_all (outcome k.client).frames (with_client (outcome k.client).client k)) hears in
      let keeps = produced_keeps (outcome k.client).frames (with_client (outcome k.client).client k) in
      subst (λ l. KeepsPlace k l) (sym same) (record { number = keeps.number; gone = keeps.gone })
]

pub given_gone : (outcome : Outcomes) (k : ServedConnection) → k.gone ≡ true → after_given outcome k ≡ k
given_gone outcome k gone = cond-true (is_deaf k) k _ (or_right k.closing k.gone gone)

-- what the session of a connection gave is what the client gives
abbrev pub IsGivenBy : Plant → Outcomes → Turned → ServedConnection → Type 0
IsGivenBy plant outcome t k = k.closing ≡ false → Gives plant (outcome k.client) t

pub record IsDone (outcome : Outcomes) (d : Delivery) (s : Summary) (k : ServedConnection) : Type 0 where
  pub stands : IsOutlet d.0 (after_given outcome k)
  pub counted : Counts s d.1 k (after_given outcome k)

pub is_done : (plant : Plant) (outcome : Outcomes) (t : Turned) (o : Outlet) (s : Summary) (k : ServedConnection)
    → IsGivenBy plant outcome t k → IsOutlet o k → k.gone ≡ false → IsDone outcome (delivered_all t.out (o, s)) s k
is_done plant outcome t o s k given st there = elim (cases_Bool k.closing) [
  | inl closing ↦
      let same = sym (given_closing outcome k closing) in
      subst (λ (d : Delivery). IsDone outcome d s k) (sym (delivered-closing t.out o s (st.closing ∙ closing))) (record {
        stands = subst (λ l. IsOutlet o l) same st;
        counted = subst (λ l. Counts s s k l) same (same_counts s k);
      })
  | inr is_open ↦
      let gives = given is_open in
      let c = (outcome k.client).client in
      let all = delivered_stands t.out gives.fit o s (with_client c k)
      (record { waiting = st.waiting; bytes_taken = st.bytes_taken; closing = st.closing }) in
      let same : produce_all (map produced_of t.out) (with_client c k) ≡ after_given outcome k =
      ap (λ fs. produce_all fs (with_client c k)) gives.frames ∙ sym (given_open outcome k is_open there) in
      record {
        stands = subst (λ l. IsOutlet (delivered_all t.out (o, s)).0 l) same all.stands;
        counted = subst (λ l. Counts s (delivered_all t.out (o, s)).1 k l) same
            (counts_client s (delivered_all t.out (o, s)).1 k (produce_all (map produced_of t.out) (with_client c k)) c all.counted);
      }
]

-- all of them are there
abbrev pub AreThere : List ServedConnection → Type 0
AreThere [] = Unit {0}
AreThere (k ∷ ks) = (k.gone ≡ false) × AreThere ks

-- the counts follow a change of some connections
pub record CountsAll (old new : Summary) (before after : List ServedConnection) : Type 0 where
  pub connections : new.connections ≡ old.connections
  pub requests : Grows old.requests new.requests (sum_by (λ (k : ServedConnection). k.frames_taken) before)
      (sum_by (λ (k : ServedConnection). k.frames_taken) after)
  pub replies : Grows old.replies new.replies (sum_by replies_of before) (sum_by replies_of after)
  pub samples : Grows old.samples new.samples (sum_by samples_of before) (sum_by samples_of after)
  pub accepted : new.accepted ≡ old.accepted
  pub refused : new.refused ≡ old.refused

-- the counts of one connection, and of some more
grows_more : (s t u a b c d : ℕ) → Grows s t a b → Grows t u c d → Grows s u (a + c) (b + d)
grows_more s t u a b c d first second = λ others e.
    second (others + b) (first (others + c) (e ∙ ap count_of (omega arith)) ∙ ap count_of (omega arith)) ∙ ap count_of (omega arith)

counts_more : (s t u : Summary) (k l : ServedConnection) (ks ls : List ServedConnection)
    → Counts s t k l → CountsAll t u ks ls → CountsAll s u (k ∷ ks) (l ∷ ls)
counts_more s t u k l ks ls first second = record {
  connections = second.connections ∙ first.connections;
  requests = grown (λ (j : ServedConnection). j.frames_taken) s.requests t.requests u.requests first.requests second.requests;
  replies = grown replies_of s.replies t.replies u.replies first.replies second.replies;
  samples = grown samples_of s.samples t.samples u.samples first.samples second.samples;
  accepted = second.accepted ∙ first.accepted;
  refused = second.refused ∙ first.refused;
}
  where
    grown : (g : ServedConnection → ℕ) (p q r : ℕ) → Grows p q (g k) (g l)
        → Grows q r (sum_by g ks) (sum_by g ls) → Grows p r (sum_by g (k ∷ ks)) (sum_by g (l ∷ ls))
    grown g p q r one two =
        subst (λ m. Grows p r m (sum_by g (l ∷ ls))) (sym (sum_by-cons g k ks))
        (subst (λ m. Grows p r (g k + sum_by g ks) m) (sym (sum_by-cons g l ls)) (grows_more p q r (g k) (g l) (sum_by g ks) (sum_by g ls) one two))

counts_none : (s : Summary) → CountsAll s s [] []
counts_none s = record {
  connections = refl;
  requests = same_count s.requests 0;
  replies = same_count s.replies 0;
  samples = same_count s.samples 0;
  accepted = refl;
  refused = refl;
}

-- all frames are given
pub record AllDone (blocked : List ℕ) (outcome : Outcomes) (new : Outlets) (s t : Summary) (ks : List ServedConnection) : Type 0 where
  pub each : EachOutlet new (map (after_given outcome) ks)
  pub marked : EachMarked blocked new
  pub counted : CountsAll s t ks (map (after_given outcome) ks)

delivered_mark : (fs : List NoteFrame) (d : Delivery) → (let o = (delivered_all fs d).0 in o.blocked) ≡ (let p = d.0 in p.blocked)
delivered_mark [] d = refl
delivered_mark (f ∷ fs) d = delivered_mark fs (delivered f d) ∙ given_mark d.0 f.frame

pub all_done : (plant : Plant) (blocked : List ℕ) (outcome : Outcomes) (ts : List Turned) (es : Outlets) (s : Summary) (ks : List ServedConnection)
    → EachBeside (IsGivenBy plant outcome) ts ks → EachOutlet es ks → AreThere ks → EachMarked blocked es
    → AllDone blocked outcome (delivered_each (frames_given ts) es s).0 s (delivered_each (frames_given ts) es s).1 ks
all_done plant blocked outcome [] [] s [] given each there marks = record { each = tt; marked = tt; counted = counts_none s }
all_done plant blocked outcome [] es s (k ∷ ks) given each there marks = absurd given
all_done plant blocked outcome (t ∷ ts) es s [] given each there marks = absurd given
all_done plant blocked outcome [] (e ∷ es) s [] given each there marks = absurd each
all_done plant blocked outcome (t ∷ ts) [] s (k ∷ ks) given each there marks = absurd each
all_done plant blocked outcome (t ∷ ts) (e ∷ es) s (k ∷ ks) given each there marks =
    let d = delivered_all t.out (e.1, s) in
    let one = is_done plant outcome t e.1 s k given.0 each.0.outlet there.0 in
    let rest = all_done plant blocked outcome ts es d.1 ks given.1 each.1 there.1 marks.1 in
    record {
      each = (record { number = each.0.number ∙ sym (given_keeps outcome k).number; outlet = one.stands }, rest.each);
      marked = (delivered_mark t.out (e.1, s) ∙ marks.0, rest.marked);
      counted = counts_more s d.1 (delivered_each (frames_given ts) es d.1).1 k (after_given outcome k) ks (map (after_given outcome) ks)
          one.counted rest.counted;
    }
