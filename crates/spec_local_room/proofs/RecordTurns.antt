-- The turns of a recording that hears the samples of one frame, one after another: it keeps each, and with enough of them it sends one
-- deletion and passes over the others.
use Rattle.std.proofs.Common.{◌≡◌, ◌⊎◌, ℕ, suc, ◌+◌, ◌<◌, List, [], ◌∷◌, length, map, Bool, true, false, refl, sym, ap, ◌∙◌, subst, inl, inr, arith}
use Rattle.std.specs.Prelude.{Option, Some, None, ◌==◌, find}
use Rattle.std.specs.List.{AllByRecursion, list_any}
use Rattle.std.proofs.lemmas.Bool.{cases_Bool, cond-true, cond-false}
use Rattle.spec_machine.proofs.Find.{test_other}
use Rattle.spec_formats.specs.Notification.{Sample}
use Rattle.spec_formats.specs.Request.{Request, DeleteDeviceNotification}
use Rattle.spec_samples.specs.Row.{Row}
use Rattle.spec_client.specs.Client.{Client, next_id, request_frame, client_after_issue}
use Rattle.spec_client.specs.Conversation.{CallEnded, sent_by, end_of_stage}
use Rattle.spec_client.specs.Heard.{Sampled, heard_of_sample}
use Rattle.spec_client.specs.Hearing.{Hearing, hearing, next_hearing}
use Rattle.spec_client.specs.Recordings.{is_recorded, recorded_at, has_enough, after_samples, row_of, after_record_sample, with_sample}
use Rattle.spec_client.specs.Runner.{Send, Keep, Turns, turns, given, is_over, is_not_yet, after_step}
use Rattle.spec_client.specs.Stages.{Done, Output, ToSend, ToKeep, Recorded, Recording, ForSamples, ForDeletion, Stage, Records, Progress, stay}
use Rattle.spec_client.specs.Steps.{after_heard, after_sample}
use Rattle.spec_client.proofs.TurnsUnfolded.{at}
use Rattle.spec_cutting.proofs.FedTurns.{still, turns_given, turns_wait}
use Rattle.spec_local_room.proofs.Hearing.{IsSilent, IsAmong, stamped, nothing_told, next_sample, silent_hears, sample_told}
use Rattle.spec_local_room.proofs.Scenes.{issued, issued_is, issued_silent}
use Rattle.spec_local_room.proofs.Recording.{samples_lead}
use Rattle.spec_local_room.proofs.Turning.{over_stays_over, hears_so}

-- a client that has these samples still to hear
abbrev pub hearing_still : Client → ℕ → List Sample → Client
hearing_still cl time ss = record cl { samples = map (stamped time) ss }

-- and none of them
abbrev pub silenced : Client → Client
silenced cl = record cl { samples = [] }

some_bytes : (bytes : List ℕ) → (bytes ≡ [] → ⊥) → (length bytes == 0) ≡ false
some_bytes [] some = absurd (some refl)
some_bytes (b ∷ bs) some = test_other (suc (length bs)) 0 (λ e. omega (arith, e))

sampled : (test : ℕ → Bool) (time : ℕ) (s : Sample) → IsAmong test s → heard_of_sample (stamped time s) ≡ Sampled s.handle time s.bytes
sampled test time s a = cond-false (length s.bytes == 0) _ _ (some_bytes s.bytes a.some)

waits_silent : (now : ℕ) (cl : Client) → IsSilent now cl → is_not_yet (next_hearing cl).heard ≡ true
waits_silent now cl silent = ap (λ (h : Hearing). is_not_yet h.heard) (silent_hears now cl silent)

-- a sample is heard, and what it leads to
pub hears_sample : (now : ℕ) (c : Client) (stage : Stage) (time : ℕ) (s : Sample) (ss : List Sample) (p : Progress)
    → is_over stage ≡ false → IsSilent now (silenced c) → after_heard stage (heard_of_sample (stamped time s)) ≡ p
    → turns now (at (hearing_still c time (s ∷ ss)) stage []) ≡ turns now (at (hearing_still c time ss) p.stage p.outputs)
hears_sample now c stage time s ss p on silent leads =
    let st = stamped time s in
    let d = hearing_still c time ss in
    let told = nothing_told now c.unanswered silent.few in
    hears_so now (hearing_still c time (s ∷ ss)) d stage (hearing (heard_of_sample st) d) on
    (next_sample (hearing_still c time (s ∷ ss)) st (map (stamped time) ss) told silent.unbroken refl) (sample_told st) refl
    ∙ ap (λ (q : Progress). turns now (at d q.stage q.outputs)) leads

-- with enough of them, where a deletion waits for its answer, samples are passed over
passed_over : (test : ℕ → Bool) (left : List ℕ) (r : Recording) (time : ℕ) (s : Sample) → IsAmong test s → has_enough r ≡ true
    → after_heard (Records (ForDeletion left) r) (heard_of_sample (stamped time s)) ≡ stay (Records (ForDeletion left) r)
unfolding after_heard after_sample
passed_over test left r time s a enough =
    ap (after_heard (Records (ForDeletion left) r)) (sampled test time s a) ∙ go (recorded_at r s.handle)
  where
    go : (o : Option Recorded) → after_record_sample (ForDeletion left) r time s.bytes o ≡ stay (Records (ForDeletion left) r)
    go None = refl
    go (Some n) = cond-true (has_enough r) _ _ enough

hears_rest : (now : ℕ) (test : ℕ → Bool) (c : Client) (left : List ℕ) (r : Recording) (time : ℕ) (ss : List Sample)
    → AllByRecursion (IsAmong test) ss → has_enough r ≡ true → IsSilent now (silenced c)
    → turns now (at (hearing_still c time ss) (Records (ForDeletion left) r) []) ≡ still (silenced c) (Records (ForDeletion left) r)
hears_rest now test c left r time [] all enough silent =
    turns_wait now (silenced c) (Records (ForDeletion left) r) refl (waits_silent now (silenced c) silent)
hears_rest now test c left r time (s ∷ ss) all enough silent =
    let stage : Stage = Records (ForDeletion left) r in
    hears_sample now c stage time s ss (stay stage) refl silent (passed_over test left r time s all.0 enough)
    ∙ hears_rest now test c left r time ss all.1 enough silent

-- what the samples of a frame lead to

pub record EndsRecord (ts : Turns) : Type 0 where
  pub over : end_of_stage ts.runner.stage ≡ Some (CallEnded Done)

-- one deletion is sent
pub record SendsDeletion (now : ℕ) (cl : Client) (r : Recording) (ts : Turns) : Type 0 where
  pub next : Recording
  pub handle : ℕ
  pub left : List ℕ
  pub sent : (n : ℕ) → sent_by n ts.steps ≡ record { answers = n; bytes = request_frame cl (next_id cl) (DeleteDeviceNotification handle) } ∷ []
  pub runner : ts.runner ≡ at (client_after_issue (silenced cl) (DeleteDeviceNotification handle) now) (Records (ForDeletion left) next) []
  pub few : length left < length r.notifications

-- it goes on, and has kept so many more
pub record KeepsOn (cl : Client) (r : Recording) (n : ℕ) (ts : Turns) : Type 0 where
  pub next : Recording
  pub sent : (n : ℕ) → sent_by n ts.steps ≡ []
  pub runner : ts.runner ≡ at (silenced cl) (Records ForSamples next) []
  pub enough : has_enough next ≡ false
  pub watching : next.watching ≡ r.watching
  pub notifications : next.notifications ≡ r.notifications
  pub kept : next.kept ≡ r.kept + n

abbrev pub RecordHears : ℕ → Client → Recording → ℕ → Turns → Type 0
RecordHears now cl r n ts = EndsRecord ts ⊎ (SendsDeletion now cl r ts ⊎ KeepsOn cl r n ts)

-- a row is kept first
abbrev row_first : Row → Turns → Turns
row_first row ts = record ts { steps = Keep row ∷ ts.steps }

keeps_row : (now : ℕ) (c : Client) (stage : Stage) (row : Row) (os : List Output)
    → turns now (at c stage (ToKeep row ∷ os)) ≡ row_first row (turns now (at c stage os))
unfolding given
keeps_row now c stage row os = turns_given now c stage (ToKeep row) os

more_kept : (a b c n : ℕ) → c ≡ b + n → b ≡ a + 1 → c ≡ a + suc n
more_kept a b c n sum one = omega (arith, sum, one)

behind_row : (now : ℕ) (cl : Client) (r next : Recording) (n : ℕ) (row : Row) (ts : Turns) → next.watching ≡ r.watching
    → next.notifications ≡ r.notifications → next.kept ≡ r.kept + 1 → RecordHears now cl next n ts → RecordHears now cl r (suc n) (row_first row ts)
behind_row now cl r next n row ts watching notes kept (inl ends) = inl (record { over = ends.over })
behind_row now cl r next n row ts watching notes kept (inr (inl sends)) = inr (inl (record {
  next = sends.next;
  handle = sends.handle;
  left = sends.left;
  sent = sends.sent;
  runner = sends.runner;
  few = subst (λ (ns : List Recorded). length sends.left < length ns) notes sends.few;
}))
behind_row now cl r next n row ts watching notes kept (inr (inr goes)) = inr (inr (record {
  next = goes.next;
  sent = goes.sent;
  runner = goes.runner;
  enough = goes.enough;
  watching = goes.watching ∙ watching;
  notifications = goes.notifications ∙ notes;
  kept = more_kept r.kept next.kept goes.next.kept n goes.kept kept;
}))

-- a deletion is sent, and the other samples are passed over
deletion_turns : (now : ℕ) (test : ℕ → Bool) (cl : Client) (left : List ℕ) (r : Recording) (q : Request) (time : ℕ) (ss : List Sample)
    → AllByRecursion (IsAmong test) ss → has_enough r ≡ true → cl.unanswered ≡ [] → IsSilent now (silenced cl)
    → turns now (at (hearing_still cl time ss) (Records (ForDeletion left) r) (ToSend q ∷ []))
    ≡ record { steps = Send (request_frame cl (next_id cl) q) ∷ []; runner = at (client_after_issue (silenced cl) q now) (Records (ForDeletion left) r) [] }
unfolding given
deletion_turns now test cl left r q time ss all enough none silent =
    let stage : Stage = Records (ForDeletion left) r in
    let d = hearing_still cl time ss in
    let after = issued (silenced cl) q now in
    let rest = hears_rest now test after left r time ss all enough (issued_silent (silenced cl) q now silent) in
    turns_given now d stage (ToSend q) []
    ∙ ap (λ (e : Client). after_step (given now (ToSend q) (at d stage [])) (turns now (at e stage []))) (issued_is d q now none)
    ∙ ap (after_step (given now (ToSend q) (at d stage []))) rest
    ∙ ap (λ (e : Client). record { steps = Send (request_frame cl (next_id cl) q) ∷ []; runner = at e stage [] }) (sym (issued_is (silenced cl) q now none))

record FoundNote (r : Recording) (handle : ℕ) : Type 0 where
  note : Recorded
  is : recorded_at r handle ≡ Some note

found_note : (r : Recording) (handle : ℕ) → is_recorded r handle ≡ true → FoundNote r handle
found_note r handle is = let f = go r.notifications is in record { note = f.0; is = f.1 }
  where
    test : Recorded → Bool
    test n = n.handle == handle

    go : (ns : List Recorded) → list_any test ns ≡ true → (n : Recorded) × (find test ns ≡ Some n)
    go [] is = absurd (let e : false ≡ true = is in cc)
    go (n ∷ ns) is = elim (cases_Bool (test n)) [
      | inl here ↦ (n, cond-true (test n) _ _ here)
      | inr later ↦ let rest = go ns (rw later at is) in (rest.0, cond-false (test n) _ _ later ∙ rest.1)
    ]

-- a sample is kept
kept_sample : (r : Recording) (time : ℕ) (s : Sample) (f : FoundNote r s.handle) → IsAmong (is_recorded r) s → has_enough r ≡ false
    → after_heard (Records ForSamples r) (heard_of_sample (stamped time s)) ≡ with_sample ForSamples r time s.bytes f.note
unfolding after_heard after_sample
kept_sample r time s f a some =
    ap (after_heard (Records ForSamples r)) (sampled (is_recorded r) time s a)
    ∙ ap (after_record_sample ForSamples r time s.bytes) f.is ∙ cond-false (has_enough r) _ _ some

pub record_hears : (now : ℕ) (cl : Client) (time : ℕ) (ss : List Sample) (r : Recording) → AllByRecursion (IsAmong (is_recorded r)) ss
    → has_enough r ≡ false → cl.unanswered ≡ [] → IsSilent now (silenced cl)
    → RecordHears now cl r (length ss) (turns now (at (hearing_still cl time ss) (Records ForSamples r) []))
record_hears now cl time [] r all some none silent =
    let waits = turns_wait now (silenced cl) (Records ForSamples r) refl (waits_silent now (silenced cl) silent) in
    subst (RecordHears now cl r 0) (sym waits) (inr (inr (record {
      next = r;
      sent = λ n. refl;
      runner = refl;
      enough = some;
      watching = refl;
      notifications = refl;
      kept = omega arith;
    })))
record_hears now cl time (s ∷ ss) r all some none silent =
    let f = found_note r s.handle all.0.handle in
    let row = row_of r f.note time s.bytes in
    let next : Recording = record r { kept = r.kept + 1 } in
    let d = hearing_still cl time ss in
    let n = length ss in
    let here = hears_sample now cl (Records ForSamples r) time s ss _ refl silent (kept_sample r time s f all.0 some) in
    let Hears : Progress → Type 0 = λ p. RecordHears now cl r (suc n) (turns now (at d p.stage (ToKeep row ∷ p.outputs))) in
    subst (RecordHears now cl r (suc n)) (sym here) (elim (samples_lead next) [
      | inl end ↦
          let p = after_samples next in
          inl (record { over = ap end_of_stage (over_stays_over now d p.stage (ToKeep row ∷ p.outputs) end.over) ∙ end.is })
      | inr (inl (enough, deletes)) ↦
          let q = DeleteDeviceNotification deletes.handle in
          let stage : Stage = Records (ForDeletion deletes.left) next in
          let same = keeps_row now d stage row (ToSend q ∷ [])
          ∙ ap (row_first row) (deletion_turns now (is_recorded r) cl deletes.left next q time ss all.1 enough none silent) in
          subst Hears (sym deletes.is) (subst (RecordHears now cl r (suc n)) (sym same) (inr (inl (record {
            next = next;
            handle = deletes.handle;
            left = deletes.left;
            sent = λ m. refl;
            runner = refl;
            few = deletes.few;
          }))))
      | inr (inr waits) ↦
          subst Hears (sym waits.is) (subst (RecordHears now cl r (suc n)) (sym (keeps_row now d (Records ForSamples next) row []))
          (behind_row now cl r next n row _ refl refl refl (record_hears now cl time ss next all.1 waits.enough none silent)))
    ])
