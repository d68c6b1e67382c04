-- Recordings: one request at a time, samples of handles that are known, and rows by number.
use Rattle.std.proofs.Common.{◌≡◌, ◌≢◌, ℕ, zero, suc, ◌+◌, ◌≤◌, List, [], ◌∷◌, ◌++◌, length, Bool, true, false, cond, refl, sym, ◌∙◌, ap, subst, inl}
use Rattle.std.proofs.Common.{inr, arith}
use Rattle.std.specs.Prelude.{Option, Some, None, find, ◌==◌, nat_le}
use Rattle.std.specs.List.{list_all}
use Rattle.std.proofs.lemmas.Bool.{cases_Bool, false≢true, or_right, or_left, eq-eqb, eqb-true}
use Rattle.std.proofs.lemmas.Bool.Decides.{nat_tests}
use Rattle.spec_formats.specs.Reply.{Reply}
use Rattle.spec_formats.specs.SymbolEntry.{SymbolEntry}
use Rattle.spec_samples.specs.Row.{Row}
use Rattle.spec_samples.specs.Laws.{AreCountedFrom}
use Rattle.spec_client.specs.Entries.{one_entry_in}
use Rattle.spec_client.specs.Stages.{CallEnd, Done, Output, ToSend, ToPrint, ToKeep, Recorded, Recording, RecordWait, ForEntry, ForNotification}
use Rattle.spec_client.specs.Stages.{ForSamples, ForDeletion}
use Rattle.spec_client.specs.Stages.{Stage, Watches, Records, Progress, progress, recording_ended}
use Rattle.spec_client.specs.Calls.{Watching}
use Rattle.spec_client.specs.Recordings.{recording_begun, has_ended, handles_of, is_recorded, has_enough, recorded_at, recording_done, after_deletion}
use Rattle.spec_client.specs.Recordings.{after_samples, with_next_name, after_record_entry}
use Rattle.spec_client.specs.Recordings.{with_notification, after_notification, row_of, with_outputs, gone_on, with_sample, after_record_sample}
use Rattle.spec_client.specs.Recordings.{after_record_end}
use Rattle.spec_client.specs.Replies.{bytes_given, handle_given, after_record_reply}
use Rattle.spec_client_laws.specs.Runs.{is_known}
use Rattle.spec_client_laws.proofs.HearingCases.{if_both}

-- how many requests are to be sent
abbrev pub sends_of : List Output → ℕ
sends_of [] = 0
sends_of (ToSend request ∷ outputs) = suc (sends_of outputs)
sends_of (ToPrint text ∷ outputs) = sends_of outputs
sends_of (ToKeep row ∷ outputs) = sends_of outputs

-- the rows that are to be kept
abbrev pub rows_in : List Output → List Row
rows_in [] = []
rows_in (ToKeep row ∷ outputs) = row ∷ rows_in outputs
rows_in (ToSend request ∷ outputs) = rows_in outputs
rows_in (ToPrint text ∷ outputs) = rows_in outputs

-- samples are listened to, and no answer is waited for
abbrev pub is_listening : Stage → Bool
is_listening (Watches e handle left) = true
is_listening (Records ForSamples r) = true
is_listening stage = false

abbrev pub AllKnown : List ℕ → List Recorded → Type 0
AllKnown known [] = Unit {0}
AllKnown known (n ∷ ns) = (is_known n.handle known ≡ true) × AllKnown known ns

-- the handles of its notifications are known
abbrev pub WatchesKnown : List ℕ → Stage → Type 0
WatchesKnown known (Watches e handle left) = is_known handle known ≡ true
WatchesKnown known (Records wait r) = AllKnown known r.notifications
WatchesKnown known stage = Unit {0}

-- a recording has its first row's number and so many rows, and takes no more than it may
abbrev pub Stands : (first limit kept : ℕ) → Stage → Type 0
Stands first limit kept (Records wait r) = (r.first ≡ first) × (r.kept ≡ kept) × (r.watching.count ≤ limit) × (kept ≤ limit)
Stands first limit kept stage = kept ≤ limit

pub all_more : (x : ℕ) (known : List ℕ) (ns : List Recorded) → AllKnown known ns → AllKnown (x ∷ known) ns
all_more x known [] h = tt
all_more x known (n ∷ ns) h = (or_right (x == n.handle) (is_known n.handle known) h.0, all_more x known ns (h.1))

all_with : (known : List ℕ) (ns : List Recorded) (n : Recorded) → AllKnown known ns → is_known n.handle known ≡ true → AllKnown known (ns ++ n ∷ [])
all_with known [] n h e = (e, tt)
all_with known (m ∷ ns) n h e = (h.0, all_with known ns n (h.1) e)

-- a notification that is found has a known handle
pub found_known : (known : List ℕ) (handle : ℕ) (ns : List Recorded) (n : Recorded) → find (λ (m : Recorded). m.handle == handle) ns ≡ Some n
    → AllKnown known ns → is_known handle known ≡ true
found_known known handle [] n e h = absurd (let f : None ≡ Some n = e in cc)
found_known known handle (m ∷ ns) n e h =
    elim (cases_Bool (m.handle == handle)) [
      | inl t ↦ subst (λ k. is_known k known ≡ true) (eqb-true m.handle handle t) (h.0)
      | inr t ↦ let f : find (λ (m : Recorded). m.handle == handle) ns ≡ Some n = rw t at e in found_known known handle ns n f (h.1)
    ]

-- what a recording goes on with, where so many requests wait for an answer: from its notifications, its first row's number,
-- the rows kept so far and how many it takes
pub record GoesOn (more : List ℕ) (ns : List Recorded) (first kept count n : ℕ) (p : Progress) : Type 0 where
  pub few : sends_of p.outputs + n ≤ 1
  pub quiet : is_listening p.stage ≡ true → sends_of p.outputs + n ≡ 0
  pub heard : (known : List ℕ) → AllKnown known ns → WatchesKnown (more ++ known) p.stage
  pub rows : AreCountedFrom (first + kept) (rows_in p.outputs)
  pub stands : (limit : ℕ) → kept ≤ limit → count ≤ limit → Stands first limit (kept + length (rows_in p.outputs)) p.stage

abbrev pub RecordsOn : List ℕ → Recording → ℕ → Progress → Type 0
RecordsOn more r n p = GoesOn more r.notifications r.first r.kept r.watching.count n p

stands_now : (r : Recording) (wait : RecordWait) (limit : ℕ) → r.kept ≤ limit → r.watching.count ≤ limit
    → Stands r.first limit (r.kept + 0) (Records wait r)
stands_now r wait limit l c = (refl, omega arith, c, omega (arith, l))

ends_so : (r : Recording) (end : CallEnd) → RecordsOn [] r 0 (recording_ended end r)
unfolding AreCountedFrom
ends_so r end = record {
  few = omega arith;
  quiet = λ e. absurd (false≢true e);
  heard = λ known h. tt;
  rows = tt;
  stands = λ limit l c. omega (arith, l);
}

-- nothing is given
waits_so : (r : Recording) (wait : RecordWait) (n : ℕ) → n ≤ 1 → (is_listening (Records wait r) ≡ true → n ≡ 0)
    → RecordsOn [] r n (progress (Records wait r) [])
unfolding AreCountedFrom
waits_so r wait n l q = record {
  few = omega (arith, l);
  quiet = λ e. let z = q e in omega (arith, z);
  heard = λ known h. h;
  rows = tt;
  stands = λ limit k c. stands_now r wait limit k c;
}

-- one request is sent
asks_so : (r : Recording) (wait : RecordWait) (o : List Output) → is_listening (Records wait r) ≡ false → sends_of o ≡ 1 → rows_in o ≡ []
    → RecordsOn [] r 0 (progress (Records wait r) o)
unfolding AreCountedFrom
asks_so r wait o other one none = record {
  few = omega (arith, one);
  quiet = λ e. absurd (false≢true (sym other ∙ e));
  heard = λ known h. h;
  rows = rw none tt;
  stands = λ limit k c. rw none (stands_now r wait limit k c);
}

deletes_on : (left : List ℕ) (r : Recording) → RecordsOn [] r 0 (after_deletion left r)
unfolding after_deletion
deletes_on [] r = ends_so r Done
deletes_on (handle ∷ left) r =
    if_both (RecordsOn [] r 0) (has_ended r handle) _ _ (λ t. deletes_on left r) (λ t. asks_so r (ForDeletion left) _ refl refl refl)

samples_on : (r : Recording) → RecordsOn [] r 0 (after_samples r)
samples_on r =
    if_both (RecordsOn [] r 0) (has_enough r) _ _ (λ t. deletes_on (handles_of r) r)
    (λ t. if_both (RecordsOn [] r 0) (list_all (has_ended r) (handles_of r)) _ _ (λ u. ends_so r Done)
    (λ u. waits_so r ForSamples 0 (omega arith) (λ e. refl)))

names_on : (r : Recording) (names : List (List ℕ)) → RecordsOn [] r 0 (with_next_name r names)
names_on r [] = samples_on r
names_on r (name ∷ names) = asks_so (record r { names = names }) ForEntry _ refl refl refl

-- a handle more is known
knows_more : (x : ℕ) (ns : List Recorded) (first kept count n : ℕ) (p : Progress) → GoesOn [] ns first kept count n p → GoesOn (x ∷ []) ns first kept count n p
knows_more x ns first kept count n p g = record {
  few = g.few;
  quiet = g.quiet;
  heard = λ known h. g.heard (x ∷ known) (all_more x known ns h);
  rows = g.rows;
  stands = g.stands;
}

-- a notification more
adds_one : (x : Recorded) (ns : List Recorded) (first kept count n : ℕ) (p : Progress) → GoesOn [] (ns ++ x ∷ []) first kept count n p
    → GoesOn (x.handle ∷ []) ns first kept count n p
adds_one x ns first kept count n p g = record {
  few = g.few;
  quiet = g.quiet;
  heard = λ known h. g.heard (x.handle ∷ known)
      (all_with (x.handle ∷ known) ns x (all_more x.handle known ns h)
      (or_left (x.handle == x.handle) (is_known x.handle known) (eq-eqb x.handle x.handle refl)));
  rows = g.rows;
  stands = g.stands;
}

notification_on : (r : Recording) (handle : ℕ) (name : List ℕ) → RecordsOn (handle ∷ []) r 0 (after_notification r handle name)
notification_on r handle name = go (is_recorded r handle)
  where
    go : (b : Bool) → RecordsOn (handle ∷ []) r 0
        (with_next_name (cond b r (record r { notifications = r.notifications ++ record { handle = handle; name = name } ∷ [] })) r.names)
    go true = knows_more handle r.notifications r.first r.kept r.watching.count 0 _ (names_on r r.names)
    go false =
        let x : Recorded = record { handle = handle; name = name } in
        adds_one x r.notifications r.first r.kept r.watching.count 0 _ (names_on (record r { notifications = r.notifications ++ x ∷ [] }) r.names)

entry_on : (r : Recording) (o : Option SymbolEntry) (payload : List ℕ) → RecordsOn [] r 0 (after_record_entry r o payload)
entry_on r None payload = ends_so r _
entry_on r (Some e) payload = asks_so (record r { entries = r.entries ++ e ∷ [] }) (ForNotification e.name) _ refl refl refl

-- behind a reply
pub reply_on : (wait : RecordWait) (r : Recording) (reply : Reply) (payload : List ℕ)
    → RecordsOn (handle_given reply ∷ []) r 0 (after_record_reply wait r reply payload)
reply_on ForEntry r reply payload =
    knows_more (handle_given reply) r.notifications r.first r.kept r.watching.count 0 _ (entry_on r (one_entry_in (bytes_given reply)) payload)
reply_on (ForNotification name) r reply payload = notification_on r (handle_given reply) name
reply_on (ForDeletion left) r reply payload =
    knows_more (handle_given reply) r.notifications r.first r.kept r.watching.count 0 _ (deletes_on left r)
reply_on ForSamples r reply payload =
    knows_more (handle_given reply) r.notifications r.first r.kept r.watching.count 0 _ (waits_so r ForSamples 0 (omega arith) (λ e. refl))

-- behind a sample or an end, where so many requests wait
goes_on_so : (wait : RecordWait) (r : Recording) (n : ℕ) → n ≤ 1 → (is_listening (Records wait r) ≡ true → n ≡ 0) → RecordsOn [] r n (gone_on wait r)
goes_on_so ForSamples r n l q = subst (λ k. RecordsOn [] r k (after_samples r)) (sym (q refl)) (samples_on r)
goes_on_so ForEntry r n l q = waits_so r ForEntry n l q
goes_on_so (ForNotification name) r n l q = waits_so r (ForNotification name) n l q
goes_on_so (ForDeletion left) r n l q = waits_so r (ForDeletion left) n l q

-- a row is kept, while there are not enough
keeps_one : (row : Row) (ns : List Recorded) (first kept count n : ℕ) (p : Progress) → row.number ≡ first + kept → nat_le count kept ≡ false
    → GoesOn [] ns first (kept + 1) count n p → GoesOn [] ns first kept count n (with_outputs (ToKeep row ∷ []) p)
unfolding AreCountedFrom
keeps_one row ns first kept count n p number less g =
    let next : first + (kept + 1) ≡ first + kept + 1 = omega arith in
    let all : (kept + 1) + length (rows_in p.outputs) ≡ kept + suc (length (rows_in p.outputs)) = omega arith in
    let few : kept + 1 ≤ count = fewer less in
    record {
      few = g.few;
      quiet = g.quiet;
      heard = g.heard;
      rows = (number, subst (λ k. AreCountedFrom k (rows_in p.outputs)) next g.rows);
      stands = λ limit k c. subst (λ m. Stands first limit m p.stage) all (g.stands limit (omega (arith, few, c)) c);
    }
  where
    fewer : nat_le count kept ≡ false → kept + 1 ≤ count
    fewer e = grind (arith, nat_tests)

pub sample_on : (wait : RecordWait) (r : Recording) (time : ℕ) (bytes : List ℕ) (o : Option Recorded) (n : ℕ) → n ≤ 1
    → (is_listening (Records wait r) ≡ true → n ≡ 0) → RecordsOn [] r n (after_record_sample wait r time bytes o)
sample_on wait r time bytes None n l q = waits_so r wait n l q
sample_on wait r time bytes (Some x) n l q =
    if_both (RecordsOn [] r n) (has_enough r) _ _ (λ t. waits_so r wait n l q)
    (λ t. keeps_one (row_of r x time bytes) r.notifications r.first r.kept r.watching.count n (gone_on wait (record r { kept = r.kept + 1 })) refl t
    (goes_on_so wait (record r { kept = r.kept + 1 }) n l (listens wait q)))
  where
    listens : (wait : RecordWait) → (is_listening (Records wait r) ≡ true → n ≡ 0) → is_listening (Records wait (record r { kept = r.kept + 1 })) ≡ true → n ≡ 0
    listens ForSamples q e = q e
    listens ForEntry q e = q e
    listens (ForNotification name) q e = q e
    listens (ForDeletion left) q e = q e

pub end_on : (wait : RecordWait) (r : Recording) (handle : ℕ) (n : ℕ) → n ≤ 1
    → (is_listening (Records wait r) ≡ true → n ≡ 0) → RecordsOn [] r n (after_record_end wait r handle)
end_on wait r handle n l q =
    if_both (RecordsOn [] r n) (is_recorded r handle) _ _ (λ t. with_or_without (has_ended r handle)) (λ t. waits_so r wait n l q)
  where
    now : Recording
    now = record r { ended = r.ended ++ handle ∷ [] }

    listens : (wait : RecordWait) → (is_listening (Records wait r) ≡ true → n ≡ 0) → is_listening (Records wait now) ≡ true → n ≡ 0
    listens ForSamples q e = q e
    listens ForEntry q e = q e
    listens (ForNotification name) q e = q e
    listens (ForDeletion left) q e = q e

    with_or_without : (b : Bool) → RecordsOn [] r n (gone_on wait (cond b r now))
    with_or_without true = goes_on_so wait r n l q
    with_or_without false = goes_on_so wait now n l (listens wait q)

-- before its first request
pub begins_on : (names : List (List ℕ)) (watching : Watching) (first : ℕ) → GoesOn [] [] first 0 watching.count 0 (recording_begun names watching first)
begins_on names watching first =
    names_on (record { watching = watching; first = first; names = names; entries = []; notifications = []; ended = []; kept = 0 }) names
