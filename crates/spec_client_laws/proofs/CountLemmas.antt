-- How many requests of an id are issued, end and wait.
use Rattle.std.proofs.Common.{◌≡◌, ℕ, ◌+◌, ◌-◌, List, [], ◌∷◌, ◌++◌, map, Bool, true, false, cond, refl, sym, ◌∙◌, ap, subst, inl, inr, arith}
use Rattle.std.specs.Prelude.{Option, Some, None, find, option_and_then, count_by, ◌==◌, ◌&&◌, nat_le}
use Rattle.std.specs.List.{list_any}
use Rattle.std.proofs.lemmas.Bool.{cases_Bool, and_parts, eqb-true, false≢true}
use Rattle.std.proofs.lemmas.List.Sums.{sum_by-cons, sum_by-append}
use Rattle.spec_formats.specs.Header.{is_same_address}
use Rattle.spec_formats.specs.Request.{Request, command_of}
use Rattle.spec_client.specs.Heard.{Heard, Answered, TimedOut}
use Rattle.spec_client.specs.Unanswered.{Unanswered, TIMEOUT, is_outstanding, is_outstanding_at, is_timed_out}
use Rattle.spec_client.specs.Unanswered.{is_timed_out_at, after_tick_of, least_id, next_timeout, without_first}
use Rattle.spec_client.specs.Client.{Client, new_client, issued_by, is_full, next_id, client_after_issue, client_after_tick}
use Rattle.spec_client.specs.Hearing.{Hearing, next_hearing}
use Rattle.spec_client.specs.History.{Issue, Fed, Tick, Next, ClientHistory, client_after_move, client_after, all_heard}
use Rattle.spec_client_laws.specs.Fates.{issue_of, issues_of, is_end_of, waiting_of, RequestsEndOnce}
use Rattle.spec_client_laws.proofs.HearingCases.{EndsNone, HearingCase, next_case}
use Rattle.spec_client_laws.proofs.FateLemmas.{is_asked}

abbrev one_if : Bool → ℕ
one_if b = cond b 1 0

waiting-cons : (id : ℕ) (u : Unanswered) (us : List Unanswered) → waiting_of id (u ∷ us) ≡ one_if (u.id == id) + waiting_of id us
waiting-cons id u us = sum_by-cons (λ (v : Unanswered). cond (v.id == id) 1 0) u us

-- one fewer of the number that a test names
without-counts : (id number : ℕ) (test : Unanswered → Bool) → ((u : Unanswered) → test u ≡ true → u.id ≡ number) → (us : List Unanswered)
    → list_any test us ≡ true
    → waiting_of id us ≡ one_if (number == id) + waiting_of id (without_first test us)
unfolding without_first
without-counts id number test same [] e = absurd (false≢true e)
without-counts id number test same (u ∷ us) e =
    elim (cases_Bool (test u)) [
      | inl t ↦ rw t (waiting-cons id u us ∙ ap (λ n. one_if (n == id) + waiting_of id us) (same u t))
      | inr t ↦
          let f : list_any test us ≡ true = rw t at e in
          let rest = without-counts id number test same us f in
          let more = waiting-cons id u (without_first test us) in
          let all = waiting-cons id u us in
          rw t (omega (arith, all, rest, more))
    ]

-- what is found is there
find-any : (test : Unanswered → Bool) (us : List Unanswered) (u : Unanswered) → find test us ≡ Some u → list_any test us ≡ true
find-any test [] u e = cc
find-any test (v ∷ vs) u e =
    elim (cases_Bool (test v)) [
      | inl t ↦ rw t refl
      | inr t ↦ let f : find test vs ≡ Some u = rw t at e in rw t (find-any test vs u f)
    ]

found-test : (test : Unanswered → Bool) (us : List Unanswered) (u : Unanswered) → find test us ≡ Some u → test u ≡ true
found-test test [] u e = cc
found-test test (v ∷ vs) u e =
    elim (cases_Bool (test v)) [
      | inl t ↦ let f : Some v ≡ Some u = rw t at e in let g : v ≡ u = cc in ap test (sym g) ∙ t
      | inr t ↦ let f : find test vs ≡ Some u = rw t at e in found-test test vs u f
    ]

timed-any : (us : List Unanswered) (u : Unanswered) → next_timeout us ≡ Some u → list_any (is_timed_out_at u.id) us ≡ true
timed-any us u e = go (least_id us) e
  where
    go : (o : Option ℕ) → option_and_then (λ id. find (is_timed_out_at id) us) o ≡ Some u → list_any (is_timed_out_at u.id) us ≡ true
    go None e = cc
    go (Some id) e =
        let t = found-test (is_timed_out_at id) us u e in
        let same = eqb-true u.id id ((and_parts (is_timed_out u) (u.id == id) t).1) in
        subst (λ n. list_any (is_timed_out_at n) us ≡ true) (sym same) (find-any (is_timed_out_at id) us u e)

pub asked-any : (id command : ℕ) (us : List Unanswered) → list_any (is_asked id command) us ≡ true → list_any (is_outstanding_at id) us ≡ true
asked-any id command [] e = e
asked-any id command (u ∷ us) e =
    elim (cases_Bool (is_outstanding_at id u)) [
      | inl t ↦ rw t refl
      | inr t ↦ let f : list_any (is_asked id command) us ≡ true = rw t at e in rw t (asked-any id command us f)
    ]

-- what is heard ends as many as are fewer
heard-counts : (id : ℕ) (c : Client) (x : Hearing) → HearingCase c x
    → waiting_of id c.unanswered ≡ one_if (is_end_of id x.heard) + waiting_of id x.client.unanswered
heard-counts id c x (inl t) =
    without-counts id t.request.id (is_timed_out_at t.request.id)
    (λ u h. eqb-true u.id t.request.id ((and_parts (is_timed_out u) (u.id == t.request.id) h).1)) c.unanswered (timed-any c.unanswered t.request t.next)
    ∙ ap (λ h. one_if (is_end_of id h) + waiting_of id (without_first (is_timed_out_at t.request.id) c.unanswered)) (sym t.heard)
    ∙ ap (λ us. one_if (is_end_of id x.heard) + waiting_of id us) (sym t.left)
heard-counts id c x (inr (inl a)) =
    let n = a.header.id in
    let some = list_any (is_asked n a.header.command) c.unanswered in
    let p = and_parts (some && is_same_address a.header.source c.peer) (is_same_address a.header.target c.me) a.answer in
    let q = and_parts some (is_same_address a.header.source c.peer) (p.0) in
    without-counts id n (is_outstanding_at n) (λ u h. eqb-true u.id n ((and_parts (is_outstanding u) (u.id == n) h).1)) c.unanswered
    (asked-any n a.header.command c.unanswered (q.0))
    ∙ ap (λ h. one_if (is_end_of id h) + waiting_of id (without_first (is_outstanding_at n) c.unanswered)) (sym a.heard)
    ∙ ap (λ us. one_if (is_end_of id x.heard) + waiting_of id us) (sym a.left)
heard-counts id c x (inr (inr n)) =
    ap (waiting_of id) (sym n.left) ∙ none x.heard n.heard
  where
    none : (h : Heard) → EndsNone h → waiting_of id x.client.unanswered ≡ one_if (is_end_of id h) + waiting_of id x.client.unanswered
    none (Answered i e k p) n = absurd n
    none (TimedOut i s t) n = absurd n
    none h n = omega arith

-- an issue adds one of its id
issue-counts : (id : ℕ) (c : Client) (r : Request) (now : ℕ)
    → waiting_of id (client_after_issue c r now).unanswered ≡ waiting_of id c.unanswered + issue_of id (issued_by c r)
unfolding client_after_issue issued_by
issue-counts id c r now =
    elim (cases_Bool (is_full c)) [
      | inl t ↦ rw t (omega arith)
      | inr t ↦
          let new : Unanswered = record { id = next_id c; command = command_of r; sent = now; timed_out = None } in
          let one = waiting-cons id new [] in
          let e : waiting_of id (c.unanswered ++ new ∷ []) ≡ waiting_of id c.unanswered + waiting_of id (new ∷ []) =
          sum_by-append (λ (v : Unanswered). cond (v.id == id) 1 0) c.unanswered (new ∷ []) in
          rw t (e ∙ ap (λ n. waiting_of id c.unanswered + n) (one ∙ more (one_if (next_id c == id))))
    ]
  where
    more : (n : ℕ) → n + waiting_of id [] ≡ n
    more n = let z : waiting_of id [] ≡ 0 = refl in omega (arith, z)

-- a tick leaves the ids
tick-counts : (id now : ℕ) (us : List Unanswered) → waiting_of id (map (after_tick_of now) us) ≡ waiting_of id us
tick-counts id now [] = refl
tick-counts id now (u ∷ us) =
    waiting-cons id (after_tick_of now u) (map (after_tick_of now) us)
    ∙ ap (λ n. one_if (n == id) + waiting_of id (map (after_tick_of now) us)) (same (is_outstanding u && nat_le TIMEOUT (now - u.sent)))
    ∙ ap (λ n. one_if (u.id == id) + n) (tick-counts id now us) ∙ sym (waiting-cons id u us)
  where
    same : (b : Bool) → (cond b (record u { timed_out = Some now }) u).id ≡ u.id
    same true = refl
    same false = refl

ends-cons : (id : ℕ) (h : Heard) (hs : List Heard) → count_by (is_end_of id) (h ∷ hs) ≡ one_if (is_end_of id h) + count_by (is_end_of id) hs
ends-cons id h hs = sum_by-cons (λ (x : Heard). cond (is_end_of id x) 1 0) h hs

all-counts : (id : ℕ) (ms : ClientHistory) (c : Client)
    → issues_of id c ms + waiting_of id c.unanswered ≡ count_by (is_end_of id) (all_heard c ms) + waiting_of id (client_after c ms).unanswered
unfolding issues_of all_heard client_after client_after_move client_after_tick
all-counts id [] c = refl
all-counts id (Issue r now ∷ ms) c =
    let rest = all-counts id ms (client_after_issue c r now) in
    let one = issue-counts id c r now in
    omega (arith, rest, one)
all-counts id (Fed piece ∷ ms) c = all-counts id ms (client_after_move c (Fed piece))
all-counts id (Tick now ∷ ms) c =
    let rest = all-counts id ms (client_after_move c (Tick now)) in
    let same = tick-counts id now c.unanswered in
    omega (arith, rest, same)
all-counts id (Next ∷ ms) c =
    let x = next_hearing c in
    let rest = all-counts id ms x.client in
    let one = heard-counts id c x (next_case c) in
    let more = ends-cons id x.heard (all_heard x.client ms) in
    omega (arith, rest, one, more)

pub requests_end_once : RequestsEndOnce
requests_end_once me peer history id =
    let all = all-counts id history (new_client me peer) in
    let z : waiting_of id [] ≡ 0 = refl in
    omega (arith, all, z)
