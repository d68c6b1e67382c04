-- What becomes of the requests of a history.
use Rattle.std.proofs.Common.{◌≡◌, ℕ, ◌-◌, List, [], ◌∷◌, ◌++◌, map, Bool, true, false, cond, refl, sym, ◌∙◌, ap, subst, inl, inr, append_assoc}
use Rattle.std.specs.Prelude.{Option, Some, None, find, unwrap_or, option_and_then, option_map, ◌==◌, ◌&&◌, nat_le, is_none, is_some}
use Rattle.std.specs.List.{list_any}
use Rattle.std.proofs.lemmas.Bool.{cases_Bool, and_parts, eqb-true, false≢true}
use Rattle.std.proofs.lemmas.List.{append-nil}
use Rattle.spec_frames.specs.Division.{frames_of}
use Rattle.spec_formats.specs.Header.{AmsAddress, is_same_address}
use Rattle.spec_formats.specs.Request.{Request, command_of}
use Rattle.spec_client.specs.Heard.{Heard, Answered, TimedOut}
use Rattle.spec_client.specs.Unanswered.{Unanswered, TIMEOUT, is_outstanding, is_outstanding_at, is_timed_out}
use Rattle.spec_client.specs.Unanswered.{is_timed_out_at, after_tick_of, least_id, next_timeout, without_first}
use Rattle.spec_client.specs.Client.{Client, new_client, Issued, issued_by, is_full, next_id, request_frame, client_after_issue, client_after_tick}
use Rattle.spec_client.specs.Hearing.{Hearing, next_hearing}
use Rattle.spec_client.specs.History.{ClientMove, Issue, Fed, Tick, Next, ClientHistory, client_after_move, client_after}
use Rattle.spec_client_laws.specs.Fates.{first_overdue, WasIssued, IsOneOf, AnswersRequest, AnswersAreOfRequests}
use Rattle.spec_client_laws.specs.Fates.{TellsTimeout, TimeoutsAreOfRequests, AllWereIssued, WaitingTimeOutInTime}
use Rattle.spec_client_laws.proofs.HearingCases.{SameEnds, EndsNone, HearingCase, next_case}

-- the first of two
abbrev first_of : Option ℕ → Option ℕ → Option ℕ
first_of None o = o
first_of (Some x) o = Some x

overdue-append : (sent : ℕ) (later : ClientHistory) (m : ClientMove)
    → first_overdue sent (later ++ m ∷ []) ≡ first_of (first_overdue sent later) (first_overdue sent (m ∷ []))
overdue-append sent [] m = refl
overdue-append sent (Tick now ∷ ms) m =
    elim (cases_Bool (nat_le TIMEOUT (now - sent))) [
      | inl t ↦ rw t refl
      | inr t ↦ rw t (overdue-append sent ms m)
    ]
overdue-append sent (Issue r now ∷ ms) m = overdue-append sent ms m
overdue-append sent (Fed piece ∷ ms) m = overdue-append sent ms m
overdue-append sent (Next ∷ ms) m = overdue-append sent ms m

-- one more move
grown : (me peer : AmsAddress) (h : ClientHistory) (m : ClientMove) (id command sent : ℕ) (o : Option ℕ) → WasIssued me peer h id command sent o
    → WasIssued me peer (h ++ m ∷ []) id command sent (first_of o (first_overdue sent (m ∷ [])))
grown me peer h m id command sent o w = record {
  before = w.before;
  request = w.request;
  later = w.later ++ m ∷ [];
  whole = ap (λ ms. ms ++ m ∷ []) w.whole ∙ append_assoc w.before (Issue w.request sent ∷ w.later) (m ∷ []);
  issued = w.issued;
  same_command = w.same_command;
  first = overdue-append sent w.later m ∙ ap (λ x. first_of x (first_overdue sent (m ∷ []))) w.first;
}

first-none : (o : Option ℕ) → first_of o None ≡ o
first-none None = refl
first-none (Some x) = refl

-- a move that is no tick
grown_so : (me peer : AmsAddress) (h : ClientHistory) (m : ClientMove) → ((sent : ℕ) → first_overdue sent (m ∷ []) ≡ None) → (us : List Unanswered)
    → AllWereIssued me peer h us → AllWereIssued me peer (h ++ m ∷ []) us
grown_so me peer h m none [] all = tt
grown_so me peer h m none (u ∷ us) all = (
  subst (WasIssued me peer (h ++ m ∷ []) u.id u.command u.sent) (ap (first_of u.timed_out) (none u.sent) ∙ first-none u.timed_out)
      (grown me peer h m u.id u.command u.sent u.timed_out (all.0)),
  grown_so me peer h m none us (all.1),
)

-- a tick
abbrev OneIssued : AmsAddress → AmsAddress → ClientHistory → Unanswered → Type 0
OneIssued me peer h u = WasIssued me peer h u.id u.command u.sent u.timed_out

tick_one : (me peer : AmsAddress) (h : ClientHistory) (now : ℕ) (u : Unanswered) (o : Option ℕ)
    → WasIssued me peer h u.id u.command u.sent (first_of o (first_overdue u.sent (Tick now ∷ [])))
    → OneIssued me peer h (after_tick_of now (record u { timed_out = o }))
tick_one me peer h now u None w = go (nat_le TIMEOUT (now - u.sent)) w
  where
    go : (b : Bool) → WasIssued me peer h u.id u.command u.sent (cond b (Some now) None)
        → OneIssued me peer h (cond b (record u { timed_out = Some now }) (record u { timed_out = None }))
    go true w = w
    go false w = w
tick_one me peer h now u (Some t) w = w

ticked : (me peer : AmsAddress) (h : ClientHistory) (now : ℕ) (us : List Unanswered) → AllWereIssued me peer h us
    → AllWereIssued me peer (h ++ Tick now ∷ []) (map (after_tick_of now) us)
ticked me peer h now [] all = tt
ticked me peer h now (u ∷ us) all = (
  tick_one me peer (h ++ Tick now ∷ []) now u u.timed_out (grown me peer h (Tick now) u.id u.command u.sent u.timed_out (all.0)),
  ticked me peer h now us (all.1),
)

all-append : (me peer : AmsAddress) (h : ClientHistory) (us vs : List Unanswered) → AllWereIssued me peer h us → AllWereIssued me peer h vs
    → AllWereIssued me peer h (us ++ vs)
all-append me peer h [] vs p q = q
all-append me peer h (u ∷ us) vs p q = (p.0, all-append me peer h us vs (p.1) q)

all-without : (me peer : AmsAddress) (h : ClientHistory) (test : Unanswered → Bool) (us : List Unanswered) → AllWereIssued me peer h us
    → AllWereIssued me peer h (without_first test us)
unfolding without_first
all-without me peer h test [] all = tt
all-without me peer h test (u ∷ us) all =
    elim (cases_Bool (test u)) [
      | inl t ↦ rw t (all.1)
      | inr t ↦ rw t (all.0, all-without me peer h test us (all.1))
    ]

-- an issue
issued_one : (me peer : AmsAddress) (h : ClientHistory) (r : Request) (now : ℕ) (c : Client) → client_after (new_client me peer) h ≡ c
    → AllWereIssued me peer h c.unanswered → AllWereIssued me peer (h ++ Issue r now ∷ []) (client_after_issue c r now).unanswered
unfolding client_after_issue issued_by
issued_one me peer h r now c e all =
    let before = grown_so me peer h (Issue r now) (λ sent. refl) c.unanswered all in
    elim (cases_Bool (is_full c)) [
      | inl t ↦ rw t before
      | inr t ↦
          let given : issued_by c r ≡ Some (record { id = next_id c; frame = request_frame c (next_id c) r }) = rw t refl in
          let new : WasIssued me peer (h ++ Issue r now ∷ []) (next_id c) (command_of r) now None = record {
            before = h;
            request = r;
            later = [];
            whole = refl;
            issued = ap (λ (d : Client). option_map (λ (i : Issued). i.id) (issued_by d r)) e ∙ ap (option_map (λ (i : Issued). i.id)) given;
            same_command = refl;
            first = refl;
          } in
          rw t (all-append me peer (h ++ Issue r now ∷ []) c.unanswered (record { id = next_id c; command = command_of r; sent = now; timed_out = None } ∷ [])
          before (new, tt))
    ]

-- what is heard leaves some of them
heard_one : (me peer : AmsAddress) (h : ClientHistory) (c : Client) (x : Hearing) → HearingCase c x → AllWereIssued me peer h c.unanswered
    → AllWereIssued me peer h x.client.unanswered
heard_one me peer h c x (inl t) all = subst (AllWereIssued me peer h) (sym t.left) (all-without me peer h (is_timed_out_at t.request.id) c.unanswered all)
heard_one me peer h c x (inr (inl a)) all =
    subst (AllWereIssued me peer h) (sym a.left) (all-without me peer h (is_outstanding_at a.header.id) c.unanswered all)
heard_one me peer h c x (inr (inr n)) all = subst (AllWereIssued me peer h) (sym n.left) all

moved : (me peer : AmsAddress) (h : ClientHistory) (m : ClientMove) (c : Client) → client_after (new_client me peer) h ≡ c
    → AllWereIssued me peer h c.unanswered → AllWereIssued me peer (h ++ m ∷ []) (client_after_move c m).unanswered
unfolding client_after_move client_after_tick
moved me peer h (Issue r now) c e all = issued_one me peer h r now c e all
moved me peer h (Fed piece) c e all = grown_so me peer h (Fed piece) (λ sent. refl) c.unanswered all
moved me peer h (Tick now) c e all = ticked me peer h now c.unanswered all
moved me peer h Next c e all = heard_one me peer (h ++ Next ∷ []) c (next_hearing c) (next_case c) (grown_so me peer h Next (λ sent. refl) c.unanswered all)

after-append : (h ms : ClientHistory) (c : Client) → client_after c (h ++ ms) ≡ client_after (client_after c h) ms
unfolding client_after
after-append [] ms c = refl
after-append (m ∷ h) ms c = after-append h ms (client_after_move c m)

after_one : (h : ClientHistory) (m : ClientMove) (c : Client) → client_after c (h ++ m ∷ []) ≡ client_after_move (client_after c h) m
unfolding client_after
after_one h m c = after-append h (m ∷ []) c

all_were : (me peer : AmsAddress) (ms h : ClientHistory) → AllWereIssued me peer h (client_after (new_client me peer) h).unanswered
    → AllWereIssued me peer (h ++ ms) (client_after (new_client me peer) (h ++ ms)).unanswered
all_were me peer [] h all =
    let P : ClientHistory → Type 0 = λ g. AllWereIssued me peer g (client_after (new_client me peer) g).unanswered in
    subst P (sym (append-nil h)) all
all_were me peer (m ∷ ms) h all =
    let c = client_after (new_client me peer) h in
    let next = subst (λ (d : Client). AllWereIssued me peer (h ++ m ∷ []) d.unanswered) (sym (after_one h m (new_client me peer)))
    (moved me peer h m c refl all) in
    let P : ClientHistory → Type 0 = λ g. AllWereIssued me peer g (client_after (new_client me peer) g).unanswered in
    subst P (append_assoc h (m ∷ []) ms) (all_were me peer ms (h ++ m ∷ []) next)

pub waiting_time_out_in_time : WaitingTimeOutInTime
unfolding client_after
waiting_time_out_in_time me peer history = all_were me peer history [] tt

-- the addresses of a client stay
record SameAddresses (c d : Client) : Type 0 where
  me : d.me ≡ c.me
  peer : d.peer ≡ c.peer

case-ends : (c : Client) (x : Hearing) → HearingCase c x → SameEnds c x.client
case-ends c x (inl t) = t.ends
case-ends c x (inr (inl a)) = a.ends
case-ends c x (inr (inr n)) = n.ends

move-addresses : (m : ClientMove) (c : Client) → SameAddresses c (client_after_move c m)
unfolding client_after_move client_after_issue client_after_tick
move-addresses (Issue r now) c = elim (cases_Bool (is_full c))
    [ inl t ↦ rw t (record { me = refl; peer = refl }) | inr t ↦ rw t (record { me = refl; peer = refl }) ]
move-addresses (Fed piece) c = record { me = refl; peer = refl }
move-addresses (Tick now) c = record { me = refl; peer = refl }
move-addresses Next c = let e = case-ends c (next_hearing c) (next_case c) in record { me = e.me; peer = e.peer }

addresses : (h : ClientHistory) (c : Client) → SameAddresses c (client_after c h)
unfolding client_after
addresses [] c = record { me = refl; peer = refl }
addresses (m ∷ h) c =
    let first = move-addresses m c in
    let rest = addresses h (client_after_move c m) in
    record { me = rest.me ∙ first.me; peer = rest.peer ∙ first.peer }

-- answers

none_is : (o : Option ℕ) → is_none o ≡ true → o ≡ None
none_is None e = refl
none_is (Some x) e = absurd (false≢true e)

-- an outstanding request of an id and a command
abbrev pub is_asked : ℕ → ℕ → Unanswered → Bool
is_asked id command u = is_outstanding_at id u && (u.command == command)

asked_of : (me peer : AmsAddress) (h : ClientHistory) (id command : ℕ) (us : List Unanswered) → AllWereIssued me peer h us
    → list_any (is_asked id command) us ≡ true → (sent : ℕ) × WasIssued me peer h id command sent None
asked_of me peer h id command [] all e = absurd (false≢true e)
asked_of me peer h id command (u ∷ us) all e =
    elim (cases_Bool (is_asked id command u)) [
      | inl t ↦
          let p = and_parts (is_outstanding_at id u) (u.command == command) t in
          let q = and_parts (is_outstanding u) (u.id == id) (p.0) in
          let P : ℕ → Type 0 = λ i. WasIssued me peer h i command u.sent None in
          let Q : ℕ → Type 0 = λ k. WasIssued me peer h u.id k u.sent None in (
            u.sent,
            subst P (eqb-true u.id id (q.1))
                (subst Q (eqb-true u.command command (p.1)) (subst (WasIssued me peer h u.id u.command u.sent) (none_is u.timed_out (q.0)) (all.0))),
          )
      | inr t ↦ let f : list_any (is_asked id command) us ≡ true = rw t at e in asked_of me peer h id command us (all.1) f
    ]

is_end : (h : Heard) (id error command : ℕ) (payload : List ℕ) → EndsNone h → h ≡ Answered id error command payload → ⊥
is_end h id error command payload n e = subst EndsNone e n

is_timeout : (h : Heard) (id sent now : ℕ) → EndsNone h → h ≡ TimedOut id sent now → ⊥
is_timeout h id sent now n e = subst EndsNone e n

answer-of : (me peer : AmsAddress) (h : ClientHistory) (c : Client) (x : Hearing) → client_after (new_client me peer) h ≡ c → HearingCase c x
    → (id error command : ℕ) (payload : List ℕ) → x.heard ≡ Answered id error command payload
    → AllWereIssued me peer h c.unanswered → SameAddresses (new_client me peer) c → AnswersRequest me peer h id error command payload
answer-of me peer h c x is (inl t) id error command payload e all same =
    let f : TimedOut t.request.id t.request.sent (unwrap_or t.request.timed_out 0) ≡ Answered id error command payload = sym t.heard ∙ e in cc
answer-of me peer h c x is (inr (inr n)) id error command payload e all same = absurd (is_end x.heard id error command payload n.heard e)
answer-of me peer h c x is (inr (inl a)) id error command payload e all same =
    let r = a.header in
    let f : Answered r.id r.error r.command _ ≡ Answered id error command payload = sym a.heard ∙ e in
    let same_id : r.id ≡ id = cc in
    let same_command : r.command ≡ command = cc in
    let some = list_any (is_asked r.id r.command) c.unanswered in
    let p = and_parts (some && is_same_address r.source c.peer) (is_same_address r.target c.me) a.answer in
    let q = and_parts some (is_same_address r.source c.peer) (p.0) in
    let asked = asked_of me peer h r.id r.command c.unanswered all (q.0) in
    let P : ℕ → Type 0 = λ i. WasIssued me peer h i command (asked.0) None in
    let Q : ℕ → Type 0 = λ k. WasIssued me peer h r.id k (asked.0) None in
    record {
      response = record {
        packet = a.packet;
        came = subst (λ (d : Client). IsOneOf a.packet (frames_of d.received)) (sym is) a.came;
        header = r;
        read = a.read;
        response = a.response;
        from = ap (is_same_address r.source) (sym same.peer) ∙ (q.1);
        to = ap (is_same_address r.target) (sym same.me) ∙ (p.1);
        same_id = same_id;
        same_error = cc;
        same_command = same_command;
        same_payload = cc;
      };
      sent = asked.0;
      request = subst P same_id (subst Q same_command (asked.1));
    }

pub answers_are_of_requests : AnswersAreOfRequests
answers_are_of_requests me peer history id error command payload e =
    let c = client_after (new_client me peer) history in
    answer-of me peer history c (next_hearing c) refl (next_case c) id error command payload e (waiting_time_out_in_time me peer history)
    (addresses history (new_client me peer))

-- timeouts

found_one : (me peer : AmsAddress) (h : ClientHistory) (test : Unanswered → Bool) (us : List Unanswered) (u : Unanswered) → AllWereIssued me peer h us
    → find test us ≡ Some u → OneIssued me peer h u × (test u ≡ true)
found_one me peer h test [] u all e = cc
found_one me peer h test (v ∷ vs) u all e =
    elim (cases_Bool (test v)) [
      | inl t ↦
          let f : Some v ≡ Some u = rw t at e in
          let g : v ≡ u = cc in
          subst (λ w. OneIssued me peer h w × (test w ≡ true)) g (all.0, t)
      | inr t ↦ let f : find test vs ≡ Some u = rw t at e in found_one me peer h test vs u (all.1) f
    ]

-- the one that is told timed out
told_one : (me peer : AmsAddress) (h : ClientHistory) (us : List Unanswered) (u : Unanswered) → AllWereIssued me peer h us → next_timeout us ≡ Some u
    → OneIssued me peer h u × (is_timed_out u ≡ true)
told_one me peer h us u all e = go (least_id us) e
  where
    go : (o : Option ℕ) → option_and_then (λ id. find (is_timed_out_at id) us) o ≡ Some u → OneIssued me peer h u × (is_timed_out u ≡ true)
    go None e = cc
    go (Some id) e =
        let f = found_one me peer h (is_timed_out_at id) us u all e in
        (f.0, (and_parts (is_timed_out u) (u.id == id) (f.1)).0)

some_is : (o : Option ℕ) → is_some o ≡ true → o ≡ Some (unwrap_or o 0)
some_is None e = absurd (false≢true e)
some_is (Some x) e = refl

timeout-of : (me peer : AmsAddress) (h : ClientHistory) (c : Client) (x : Hearing) → HearingCase c x → (id sent now : ℕ) → x.heard ≡ TimedOut id sent now
    → AllWereIssued me peer h c.unanswered → TellsTimeout me peer h id sent now
timeout-of me peer h c x (inr (inl a)) id sent now e all = let f : Answered a.header.id a.header.error a.header.command _ ≡ TimedOut id sent now = sym a.heard
    ∙ e in cc
timeout-of me peer h c x (inr (inr n)) id sent now e all = absurd (is_timeout x.heard id sent now n.heard e)
timeout-of me peer h c x (inl t) id sent now e all =
    let u = t.request in
    let f : TimedOut u.id u.sent (unwrap_or u.timed_out 0) ≡ TimedOut id sent now = sym t.heard ∙ e in
    let same_id : u.id ≡ id = cc in
    let same_sent : u.sent ≡ sent = cc in
    let same_now : unwrap_or u.timed_out 0 ≡ now = cc in
    let told = told_one me peer h c.unanswered u all t.next in
    let time : u.timed_out ≡ Some now = some_is u.timed_out (told.1) ∙ ap (λ n. Some n) same_now in
    let P : ℕ → Type 0 = λ i. WasIssued me peer h i u.command sent (Some now) in
    let Q : ℕ → Type 0 = λ s. WasIssued me peer h u.id u.command s (Some now) in
    record { command = u.command; request = subst P same_id (subst Q same_sent (subst (WasIssued me peer h u.id u.command u.sent) time (told.0))) }

pub timeouts_are_of_requests : TimeoutsAreOfRequests
timeouts_are_of_requests me peer history id sent now e =
    let c = client_after (new_client me peer) history in
    timeout-of me peer history c (next_hearing c) (next_case c) id sent now e (waiting_time_out_in_time me peer history)
