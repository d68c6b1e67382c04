-- All connections after a tick or a reload: each is asked, and its frames are produced.
use Rattle.std.proofs.Common.{◌≡◌, ℕ, suc, ◌+◌, ◌<◌, List, [], ◌∷◌, length, map, get_or, set, true}
use Rattle.std.proofs.Common.{false, refl, sym, ap, ◌∙◌, subst, inl, inr, arith}
use Rattle.std.specs.Prelude.{sum_by, filter}
use Rattle.std.proofs.lemmas.Bool.{true≢false, cases_Bool, cases_lt, cond-true, cond-false, or_right}
use Rattle.std.proofs.lemmas.List.{length-map, get_or-set_same, get_or-set_other}
use Rattle.std.proofs.lemmas.List.Sums.{sum_by-cons, sum-map}
use Rattle.signals.specs.Wave.{Wave}
use Rattle.spec_plant.specs.World.{Plant}
use Rattle.spec_machine.specs.Device.{Produced}
use Rattle.spec_machine.specs.Connection.{is_deaf, produce, produce_all}
use Rattle.spec_machine.specs.Piece.{with_client}
use Rattle.spec_machine.specs.Summary.{Summary as CountsOfState, count_of, replies_in, samples_in, summary_of}
use Rattle.ams_tcp.specs.Held.{Held}
use Rattle.connections.specs.Carries.{Carries, EachBeside, EachOutlet, EachStream, IsEntryOf, IsStreamOf}
use Rattle.connections.specs.Outlets.{Outlets}
use Rattle.connections.specs.Present.{present}
use Rattle.connections.proofs.ColumnLemmas.{each_length}
use Rattle.connections.proofs.ForgottenLemmas.{mapped, present-map}
use Rattle.connections.proofs.StateLemmas.{present-gone, present-there}
use Rattle.session.specs.StandsFor.{StandsFor}
use Rattle.server_core.specs.declared.summary.Summary.{Summary}
use Rattle.server_core.specs.declared.turned.Turned.{Turned}
use Rattle.server_core.specs.Asked.{IsAsked, EachAsked}
use Rattle.server_core.specs.Columns.{skipped}
use Rattle.server_core.specs.Counts.{Grows, counts_in, replies_of, samples_of}
use Rattle.server_core.specs.CoreState.{CoreState}
use Rattle.server_core.specs.Delivering.{Outcomes, after_given, delivered_each, frames_given, DeliversAll}
use Rattle.server_core.specs.HoldsWorld.{HoldsState}
use Rattle.server_core.specs.Served.{ServedConnection, ServedState}
use Rattle.server_core.specs.ServerView.{ServerView, sessions_of}
use Rattle.server_core.specs.Serves.{EachClient, ServesEach}
use Rattle.server_core.specs.Stands.{IsClientOf}
use Rattle.server_core.proofs.DeliverLemmas.{AreThere, CountsAll, IsGivenBy, all_done, given_closing, given_keeps, given_open}
use Rattle.server_core.proofs.ProduceLemmas.{SameStream, produce-stream, stream_on}
use Rattle.server_core.proofs.SkipLemmas.{skipped_length}
use Rattle.server_core.proofs.SumLemmas.{same_counts_of, produced_sum}

pub given_gone : (outcome : Outcomes) (k : ServedConnection) → k.gone ≡ true → after_given outcome k ≡ k
given_gone outcome k gone = cond-true (is_deaf k) k _ (or_right k.closing k.gone gone)

-- what a connection has received and taken stays
streams_on : (frames : List Produced) (k : ServedConnection) → SameStream k (produce_all frames k)
unfolding produce_all
streams_on [] k = record { number = refl; received = refl; frames_taken = refl; client = refl; gone = refl }
streams_on (f ∷ fs) k =
    let one = produce-stream f k in
    let rest = streams_on fs (produce f k) in
    record {
      number = rest.number ∙ one.number;
      received = rest.received ∙ one.received;
      frames_taken = rest.frames_taken ∙ one.frames_taken;
      client = rest.client ∙ one.client;
      gone = rest.gone ∙ one.gone;
    }

-- a stream stands for the connection as before
stream_given : (outcome : Outcomes) (held : Held) (k : ServedConnection) → k.gone ≡ false → IsStreamOf held k → IsStreamOf held (after_given outcome k)
stream_given outcome held k there st = elim (cases_Bool k.closing) [
  | inl closing ↦ subst (λ l. IsStreamOf held l) (sym (given_closing outcome k closing)) st
  | inr is_open ↦
      let l = with_client (outcome k.client).client k in
      subst (λ m. IsStreamOf held m) (sym (given_open outcome k is_open there))
      (stream_on held l (produce_all (outcome k.client).frames l) (streams_on (outcome k.client).frames l) st)
]

streams_given : (outcome : Outcomes) (helds : List Held) (ks : List ServedConnection) → AreThere ks
    → EachStream helds ks → EachStream helds (map (after_given outcome) ks)
streams_given outcome [] [] there each = tt
streams_given outcome [] (k ∷ ks) there each = absurd each
streams_given outcome (h ∷ hs) [] there each = absurd each
streams_given outcome (h ∷ hs) (k ∷ ks) there each =
    (stream_given outcome h k there.0 each.0, streams_given outcome hs ks there.1 each.1)

-- a session that gave its frames stands for the client after
client_given : (plant : Plant) (outcome : Outcomes) (t : Turned) (k : ServedConnection) → k.gone ≡ false
    → IsGivenBy plant outcome t k → IsClientOf plant t.session (after_given outcome k)
client_given plant outcome t k there given = λ is_open. elim (cases_Bool k.closing) [
  | inl closing ↦
      let was = ap (λ (l : ServedConnection). l.closing) (given_closing outcome k closing) in
      absurd (true≢false (sym closing ∙ sym was ∙ is_open))
  | inr opened ↦
      let l = with_client (outcome k.client).client k in
      let same : (after_given outcome k).client ≡ (outcome k.client).client =
      ap (λ (m : ServedConnection). m.client) (given_open outcome k opened there) ∙ (streams_on (outcome k.client).frames l).client in
      subst (λ c. StandsFor plant c t.session) (sym same) (given opened).stands
]

clients_given : (plant : Plant) (outcome : Outcomes) (ts : List Turned) (ks : List ServedConnection) → AreThere ks
    → EachBeside (IsGivenBy plant outcome) ts ks → EachClient plant (sessions_of ts) (map (after_given outcome) ks)
clients_given plant outcome [] [] there each = tt
clients_given plant outcome [] (k ∷ ks) there each = absurd each
clients_given plant outcome (t ∷ ts) [] there each = absurd each
clients_given plant outcome (t ∷ ts) (k ∷ ks) there each =
    (client_given plant outcome t k there.0 each.0, clients_given plant outcome ts ks there.1 each.1)

-- Sessions before they are asked: whose connection is closing is left out.

pub sessions_skipped : (es : Outlets) (ts : List Turned) → sessions_of (skipped es ts) ≡ sessions_of ts
sessions_skipped es [] = refl
sessions_skipped [] (t ∷ ts) = ap (λ ss. t.session ∷ ss) (sessions_skipped [] ts)
sessions_skipped (e ∷ es) (t ∷ ts) = ap (λ ss. t.session ∷ ss) (sessions_skipped es ts)

abbrev pub IsMarked : Turned → ServedConnection → Type 0
IsMarked t k = t.skip ≡ k.closing

pub marked_skipped : (plant : Plant) (es : Outlets) (ts : List Turned) (ks : List ServedConnection)
    → EachOutlet es ks → EachClient plant (sessions_of ts) ks → EachBeside IsMarked (skipped es ts) ks
marked_skipped plant [] [] [] each clients = tt
marked_skipped plant es [] (k ∷ ks) each clients = absurd clients
marked_skipped plant es (t ∷ ts) [] each clients = absurd clients
marked_skipped plant (e ∷ es) [] [] each clients = absurd each
marked_skipped plant [] (t ∷ ts) (k ∷ ks) each clients = absurd each
marked_skipped plant (e ∷ es) (t ∷ ts) (k ∷ ks) each clients =
    (each.0.outlet.closing, marked_skipped plant es ts ks each.1 clients.1)

-- each that is not left out gave the frames of its client
given_all : (old_plant plant : Plant) (outcome : Outcomes) (ts us : List Turned) (ks : List ServedConnection)
    → EachAsked old_plant plant outcome ts us → EachBeside IsMarked ts ks → EachClient old_plant (sessions_of ts) ks
    → EachBeside (IsGivenBy plant outcome) us ks
given_all old_plant plant outcome [] [] [] asked marks clients = tt
given_all old_plant plant outcome [] [] (k ∷ ks) asked marks clients = absurd marks
given_all old_plant plant outcome [] (u ∷ us) ks asked marks clients = absurd asked
given_all old_plant plant outcome (t ∷ ts) [] ks asked marks clients = absurd asked
given_all old_plant plant outcome (t ∷ ts) (u ∷ us) [] asked marks clients = absurd marks
given_all old_plant plant outcome (t ∷ ts) (u ∷ us) (k ∷ ks) asked marks clients = (
  (λ is_open. asked.0.gives (marks.0 ∙ is_open) k.client (clients.0 is_open)),
  given_all old_plant plant outcome ts us ks asked.1 marks.1 clients.1,
)

-- as many are asked as there are outlets
asked_length : (a b : Plant) (outcome : Outcomes) (ts us : List Turned) → EachAsked a b outcome ts us → length us ≡ length ts
asked_length a b outcome [] [] each = refl
asked_length a b outcome [] (u ∷ us) each = absurd each
asked_length a b outcome (t ∷ ts) [] each = absurd each
asked_length a b outcome (t ∷ ts) (u ∷ us) each = ap suc (asked_length a b outcome ts us each.1)

pub aligned : (es : Outlets) (plant : Plant) (ts : List Turned) (ps : List ServedConnection)
    → EachOutlet es ps → EachClient plant (sessions_of ts) ps → length (skipped es ts) ≡ length es
aligned es plant ts ps each clients =
    skipped_length es ts ∙ sym (length-map ts (λ (t : Turned). t.session))
    ∙ each_length (IsClientOf plant) (sessions_of ts) ps clients ∙ sym (each_length IsEntryOf es ps each)

pub all_asked : (es : Outlets) (old_plant plant : Plant) (outcome : Outcomes) (ts us : List Turned) (ps : List ServedConnection)
    → EachOutlet es ps → EachClient old_plant (sessions_of ts) ps → EachAsked old_plant plant outcome (skipped es ts) us → length us ≡ length es
all_asked es old_plant plant outcome ts us ps each clients asked =
    asked_length old_plant plant outcome (skipped es ts) us asked ∙ aligned es old_plant ts ps each clients

all_there : (ks : List ServedConnection) → AreThere (present ks)
all_there [] = tt
all_there (k ∷ ks) = elim (cases_Bool k.gone) [
  | inl gone ↦ subst AreThere (sym (present-gone k ks gone)) (all_there ks)
  | inr there ↦ subst AreThere (sym (present-there k ks there)) (there, all_there ks)
]

-- sums over those that are there, and over the others
gone_ones : List ServedConnection → List ServedConnection
gone_ones ks = filter (λ (k : ServedConnection). k.gone) ks

sum_present : (g : ServedConnection → ℕ) (ks : List ServedConnection) → sum_by g ks ≡ sum_by g (present ks) + sum_by g (gone_ones ks)
unfolding gone_ones
sum_present g [] = refl
sum_present g (k ∷ ks) =
    let rest = sum_present g ks in
    let all = sum_by-cons g k ks in
    elim (cases_Bool k.gone) [
      | inl gone ↦
          let a = ap (sum_by g) (present-gone k ks gone) in
          let b = ap (sum_by g) (cond-true k.gone (k ∷ gone_ones ks) (gone_ones ks) gone) in
          let c = sum_by-cons g k (gone_ones ks) in
          omega (arith, rest, all, a, b, c)
      | inr there ↦
          let a = ap (sum_by g) (present-there k ks there) in
          let b = ap (sum_by g) (cond-false k.gone (k ∷ gone_ones ks) (gone_ones ks) there) in
          let c = sum_by-cons g k (present ks) in
          omega (arith, rest, all, a, b, c)
    ]

gone-given : (outcome : Outcomes) (ks : List ServedConnection) → gone_ones (map (after_given outcome) ks) ≡ gone_ones ks
unfolding gone_ones
gone-given outcome [] = refl
gone-given outcome (k ∷ ks) =
    let f : ServedConnection → ServedConnection = after_given outcome in
    let keeps = given_keeps outcome k in
    elim (cases_Bool k.gone) [
      | inl gone ↦
          cond-true (f k).gone (f k ∷ gone_ones (map f ks)) (gone_ones (map f ks)) (keeps.gone ∙ gone)
          ∙ ap (λ l. l ∷ gone_ones (map f ks)) (given_gone outcome k gone) ∙ ap (λ ls. k ∷ ls) (gone-given outcome ks)
          ∙ sym (cond-true k.gone (k ∷ gone_ones ks) (gone_ones ks) gone)
      | inr there ↦
          cond-false (f k).gone (f k ∷ gone_ones (map f ks)) (gone_ones (map f ks)) (keeps.gone ∙ there) ∙ gone-given outcome ks
          ∙ sym (cond-false k.gone (k ∷ gone_ones ks) (gone_ones ks) there)
    ]

grows_all : (outcome : Outcomes) (g : ServedConnection → ℕ) (p q : ℕ) (ks : List ServedConnection)
    → Grows p q (sum_by g (present ks)) (sum_by g (map (after_given outcome) (present ks)))
    → p ≡ count_of (sum_by g ks) → q ≡ count_of (sum_by g (map (after_given outcome) ks))
grows_all outcome g p q ks grows e =
    let before = sum_present g ks in
    let after = sum_present g (map (after_given outcome) ks) in
    let here = ap (sum_by g) (present-map (after_given outcome) (λ k. (given_keeps outcome k).gone) ks) in
    let gone = ap (sum_by g) (gone-given outcome ks) in
    grows (sum_by g (gone_ones ks)) (e ∙ ap count_of (omega (arith, before))) ∙ ap count_of (omega (arith, after, here, gone))

-- the counts follow
pub counted_all : (outcome : Outcomes) (s t : Summary) (z y : ServedState)
    → y.connections ≡ map (after_given outcome) z.connections → y.accepted ≡ z.accepted → y.refused ≡ z.refused
    → CountsAll s t (present z.connections) (map (after_given outcome) (present z.connections)) → counts_in s ≡ summary_of z → counts_in t ≡ summary_of y
counted_all outcome s t z y connections accepted refused c e =
    let ks = z.connections in
    let ls = y.connections in
    let f : ServedConnection → ServedConnection = after_given outcome in
    let taken : ServedConnection → ℕ = λ k. k.frames_taken in
    let requests = grows_all outcome taken s.requests t.requests ks c.requests (ap (λ (q : CountsOfState). q.requests) e ∙ ap count_of (sum-map taken ks)) in
    let replies = grows_all outcome replies_of s.replies t.replies ks c.replies
    (ap (λ (q : CountsOfState). q.replies) e ∙ ap count_of (produced_sum replies_in ks)) in
    let samples = grows_all outcome samples_of s.samples t.samples ks c.samples
    (ap (λ (q : CountsOfState). q.samples) e ∙ ap count_of (produced_sum samples_in ks)) in
    same_counts_of (counts_in t) (summary_of y)
    (c.connections ∙ ap (λ (q : CountsOfState). q.connections) e ∙ ap count_of (sym (length-map ks f))
    ∙ ap (λ (js : List ServedConnection). count_of (length js)) (sym connections))
    (requests ∙ ap (λ (js : List ServedConnection). count_of (sum_by taken js)) (sym connections) ∙ ap count_of (sym (sum-map taken ls)))
    (replies ∙ ap (λ (js : List ServedConnection). count_of (sum_by replies_of js)) (sym connections) ∙ ap count_of (sym (produced_sum replies_in ls)))
    (samples ∙ ap (λ (js : List ServedConnection). count_of (sum_by samples_of js)) (sym connections) ∙ ap count_of (sym (produced_sum samples_in ls)))
    (c.accepted ∙ ap (λ (q : CountsOfState). q.accepted) e ∙ ap count_of (sym accepted))
    (c.refused ∙ ap (λ (q : CountsOfState). q.refused) e ∙ ap count_of (sym refused))

-- what is kept after all were asked, and all frames produced
pub record AllFollow (w : ServerView) (s : Summary) (ws : List Wave) (x : CoreState) (outcome : Outcomes) (y : ServedState) : Type 0 where
  pub serves : ServesEach w ws (record { state = y; blocked = x.blocked })
  pub counted : CountsAll s w.summary (present x.state.connections) (map (after_given outcome) (present x.state.connections))

-- from the sessions ts, of which those are left out whose connection is closing, to us, which gave their frames, and to zs
pub all_follow : (v w : ServerView) (s : Summary) (waves ws : List Wave) (x : CoreState) (outcome : Outcomes) (y : ServedState) (ts us zs : List Turned)
    → ServesEach v waves x → v.sessions ≡ sessions_of ts
    → EachAsked x.state.world.plant y.world.plant outcome (skipped v.outlets ts) us
    → DeliversAll us zs v.outlets w.outlets s w.summary → w.streams ≡ v.streams → w.sessions ≡ sessions_of zs
    → HoldsState w.device ws y → y.connections ≡ map (after_given outcome) x.state.connections
    → AllFollow w s ws x outcome y
all_follow v w s waves ws x outcome y ts us zs serves sessions asked delivers streams new_sessions device connections =
    let ks = x.state.connections in
    let ps = present ks in
    let f : ServedConnection → ServedConnection = after_given outcome in
    let old_plant = x.state.world.plant in
    let plant = y.world.plant in
    let clients : EachClient old_plant (sessions_of ts) ps = subst (λ ss. EachClient old_plant ss ps) sessions serves.clients in
    let marks = marked_skipped old_plant v.outlets ts ps serves.outlets.each clients in
    let given = given_all old_plant plant outcome (skipped v.outlets ts) us ps asked marks
    (subst (λ ss. EachClient old_plant ss ps) (sym (sessions_skipped v.outlets ts)) clients) in
    let there = all_there ks in
    let done = all_done plant x.blocked outcome us v.outlets s ps given serves.outlets.each there serves.outlets.marked in
    let here : map f ps ≡ present y.connections = sym (present-map f (λ k. (given_keeps outcome k).gone) ks) ∙ ap present (sym connections) in
    record {
      serves = record {
        device = device;
        outlets = subst (λ es. Carries es x.blocked y.connections) (sym delivers.outlets)
            (subst (λ js. Carries (delivered_each (frames_given us) v.outlets s).0 x.blocked js) (sym connections)
            (mapped f (λ k. (given_keeps outcome k).number) (λ k. (given_keeps outcome k).gone) v.outlets (delivered_each (frames_given us) v.outlets s).0
            x.blocked ks serves.outlets done.each done.marked));
        streams = subst (λ hs. EachStream hs (present y.connections)) (sym streams)
            (subst (λ qs. EachStream v.streams qs) here (streams_given outcome v.streams ps there serves.streams));
        clients = subst (λ ss. EachClient plant ss (present y.connections)) (sym (new_sessions ∙ delivers.sessions))
            (subst (λ qs. EachClient plant (sessions_of us) qs) here (clients_given plant outcome us ps there given));
      };
      counted = subst (λ (t : Summary). CountsAll s t ps (map f ps)) (sym delivers.counted) done.counted;
    }

-- each was asked, place by place
pub each_asked : (old_plant plant : Plant) (outcome : Outcomes) (ts us : List Turned) → length us ≡ length ts
    → ((k : ℕ) (d : Turned) → k < length ts → IsAsked old_plant plant outcome (get_or ts k d) (get_or us k d)) → EachAsked old_plant plant outcome ts us
each_asked old_plant plant outcome [] [] e all = tt
each_asked old_plant plant outcome [] (u ∷ us) e all = absurd (omega (arith, e))
each_asked old_plant plant outcome (t ∷ ts) [] e all = absurd (omega (arith, e))
each_asked old_plant plant outcome (t ∷ ts) (u ∷ us) e all =
    (all 0 t (omega arith), each_asked old_plant plant outcome ts us (omega (arith, e)) (λ k d below. all (suc k) d (omega (arith, below))))

-- one more of them was asked
pub asked_more : (P : Turned → Turned → Type 0) (ts us : List Turned) (i : ℕ) (u : Turned) → i < length us → ((d : Turned) → P (get_or ts i d) u)
    → ((k : ℕ) (d : Turned) → k < i → P (get_or ts k d) (get_or us k d)) → (k : ℕ) (d : Turned) → k < i + 1 → P (get_or ts k d) (get_or (set us i u) k d)
asked_more P ts us i u within one all k d below = elim (cases_lt k i) [
  | inl before ↦ subst (λ (z : Turned). P (get_or ts k d) z) (sym (get_or-set_other us i k u d (λ e. absurd (omega (arith, before, e))))) (all k d before)
  | inr last ↦
      let at : k ≡ i = omega (arith, last, below) in
      subst (λ (j : ℕ). P (get_or ts j d) (get_or (set us i u) j d)) (sym at)
      (subst (λ (z : Turned). P (get_or ts i d) z) (sym (get_or-set_same us i u d within)) (one d))
]
