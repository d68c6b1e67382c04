-- A call keeps one request at a time, and knows the handle that it watches.
use Rattle.std.proofs.Common.{◌≡◌, ◌⊎◌, ℕ, zero, suc, ◌+◌, ◌≤◌, List, [], ◌∷◌, ◌++◌, map, length, Bool, true}
use Rattle.std.proofs.Common.{false, refl, sym, ◌∙◌, ap, subst, inl, inr, arith}
use Rattle.std.specs.Prelude.{Option, Some, None, ◌==◌, ◌&&◌, nat_le}
use Rattle.std.specs.List.{list_any}
use Rattle.std.proofs.lemmas.Bool.{cases_Bool, and_parts, false≢true}
use Rattle.std.proofs.lemmas.List.{length-map}
use Rattle.spec_formats.specs.Header.{AmsAddress, is_same_address, payload_of}
use Rattle.spec_formats.specs.Reply.{Reply, reply_of, result_of}
use Rattle.spec_formats.specs.Request.{command_of}
use Rattle.spec_formats.specs.SymbolEntry.{SymbolEntry}
use Rattle.spec_formats.specs.TypeEntry.{TypeEntry}
use Rattle.spec_plant.specs.TypeTexts.{type_text_of}
use Rattle.spec_client.specs.Heard.{Heard, Answered, Sampled, Ended, Stray, TimedOut, NotYet, Broken}
use Rattle.spec_client.specs.Unanswered.{Unanswered, is_outstanding_at, is_timed_out_at, outstanding_count, after_tick_of, without_first}
use Rattle.spec_client.specs.Client.{Client, next_id, request_frame, is_full, client_after_issue, client_after_tick}
use Rattle.spec_client.specs.Hearing.{Hearing, next_hearing, hearings_left}
use Rattle.spec_client.specs.Calls.{Call, Info, State, Control, Get, Set, Symbols, Watch, Show, Record}
use Rattle.spec_client.specs.Entries.{one_entry_in, entries_in, types_in}
use Rattle.spec_client.specs.LeafTypes.{is_sound_text}
use Rattle.spec_client.specs.Stages.{CallEnd, Output, ToSend, ToPrint, ToKeep, Purpose, ToGet, ToSet, ToWatch, ToShow, Stage}
use Rattle.spec_client.specs.Stages.{AwaitsFacts, AwaitsState, AwaitsLast, AwaitsEntry, AwaitsValue, AwaitsHandle}
use Rattle.spec_client.specs.Stages.{AwaitsWrite, AwaitsUploadInfo, AwaitsUpload, AwaitsNotification, Watches}
use Rattle.spec_client.specs.Stages.{AwaitsTypeInfo, AwaitsTypes, AwaitsLeaves, RecordWait, ForSamples}
use Rattle.spec_client.specs.Stages.{Recording, Records, Finished, FinishedRecording, Progress, stay, ended_at}
use Rattle.spec_client.specs.Replies.{bytes_given, handle_given, after_value_read, after_entry, after_entry_read}
use Rattle.spec_client.specs.Replies.{after_upload, after_types, after_reply, after_answer}
use Rattle.spec_client.specs.Recordings.{recorded_at}
use Rattle.spec_client.specs.Steps.{with_samples_left, after_watched_sample, after_sample, after_end, after_heard, begun}
use Rattle.spec_client.specs.ValueReading.{value_of_text}
use Rattle.spec_client.specs.Runner.{Runner, CallStep, Send, Wait, Turned, new_runner, given, resting, is_over}
use Rattle.spec_client.specs.Runner.{is_not_yet, runner_after_hearing, turn_giving, turn_within}
use Rattle.spec_client_laws.specs.Runs.{RunMove, runner_after_move, runner_after, IsSentAlone, SendsOneByOne, HeardAt}
use Rattle.spec_client_laws.specs.Runs.{has_some, heard_within, heard_at_move, heard_in, handle_of_reply, handles_of}
use Rattle.spec_client_laws.specs.Runs.{is_known, TakesKnown, TakesGivenAfter, PrintsGivenSamples}
use Rattle.spec_client_laws.specs.Runs as run
use Rattle.spec_client_laws.proofs.CountLemmas.{asked-any}
use Rattle.spec_client_laws.proofs.HearingCases.{if_both, EndsNone, HearingCase, next_case}
use Rattle.spec_client_laws.proofs.RecordingLemmas.{sends_of, rows_in, is_listening, RecordsOn, reply_on, sample_on, end_on, begins_on}

abbrev pub is_recording : Stage → Bool
is_recording (Records wait r) = true
is_recording stage = false

-- a progress that sends one request at most, does not listen, and is no recording's that goes on
pub record Plain (p : Progress) : Type 0 where
  pub other : is_listening p.stage ≡ false
  pub apart : is_recording p.stage ≡ false
  pub few : sends_of p.outputs ≤ 1
  pub none : rows_in p.outputs ≡ []

pub plain_ended : (stage : Stage) (end : CallEnd) → Plain (ended_at stage end)
plain_ended (Records wait r) end = record { other = refl; apart = refl; few = omega arith; none = refl }
plain_ended stage end = record { other = refl; apart = refl; few = omega arith; none = refl }

plain_end : (end : CallEnd) → Plain (record { stage = Finished end; outputs = [] })
plain_end end = record { other = refl; apart = refl; few = omega arith; none = refl }

prints_only : {A : Type 0} (f : A → List ℕ) (xs : List A) → sends_of (map (λ x. ToPrint (f x)) xs) ≡ 0
prints_only f [] = refl
prints_only f (x ∷ xs) = prints_only f xs

keeps_none : {A : Type 0} (f : A → List ℕ) (xs : List A) → rows_in (map (λ x. ToPrint (f x)) xs) ≡ []
keeps_none f [] = refl
keeps_none f (x ∷ xs) = keeps_none f xs

plain_prints : {A : Type 0} (end : CallEnd) (f : A → List ℕ) (xs : List A) → Plain (record { stage = Finished end; outputs = map (λ x. ToPrint (f x)) xs })
plain_prints end f xs = let e = prints_only f xs in record { other = refl; apart = refl; few = omega (arith, e); none = keeps_none f xs }

plain_value : (name : List ℕ) (o : Option (List ℕ)) → Plain (after_value_read name o)
plain_value name None = plain_end _
plain_value name (Some value) = record { other = refl; apart = refl; few = omega arith; none = refl }

plain_entry : (purpose : Purpose) (name : List ℕ) (e : SymbolEntry) → Plain (after_entry purpose name e)
plain_entry ToGet name e = record { other = refl; apart = refl; few = omega arith; none = refl }
plain_entry (ToSet text) name e = plain_value name (value_of_text e.type_id e.size text)
plain_entry (ToWatch watching) name e = record { other = refl; apart = refl; few = omega arith; none = refl }
plain_entry ToShow name e = record { other = refl; apart = refl; few = omega arith; none = refl }

plain_entry_read : (purpose : Purpose) (name : List ℕ) (o : Option SymbolEntry) (payload : List ℕ) → Plain (after_entry_read purpose name o payload)
plain_entry_read purpose name None payload = plain_end _
plain_entry_read purpose name (Some e) payload = plain_entry purpose name e

plain_upload : (o : Option (List SymbolEntry)) (payload : List ℕ) → Plain (after_upload o payload)
plain_upload None payload = plain_end _
plain_upload (Some entries) payload = plain_prints _ _ entries

plain_types : (name : List ℕ) (e : SymbolEntry) (o : Option (List TypeEntry)) (payload : List ℕ) → Plain (after_types name e o payload)
plain_types name e None payload = plain_end _
plain_types name e (Some types) payload =
    if_both Plain (is_sound_text types e.size (type_text_of e.type_name)) _ _
    (λ t. record { other = refl; apart = refl; few = omega arith; none = refl }) (λ t. plain_end _)

-- a reply: a plain progress; or the notification that it gave a handle of is listened to; or nothing changes
pub record Listens (reply : Reply) (p : Progress) : Type 0 where
  pub entry : SymbolEntry
  pub left : ℕ
  pub now : p ≡ stay (Watches entry (handle_given reply) left)

pub record StaysSo (stage : Stage) (p : Progress) : Type 0 where
  pub now : p ≡ stay stage

-- a recording that goes on
pub record OfRecording (stage : Stage) (reply : Reply) (p : Progress) : Type 0 where
  pub wait : RecordWait
  pub recording : Recording
  pub was : stage ≡ Records wait recording
  pub on : RecordsOn (handle_given reply ∷ []) recording 0 p

abbrev pub ReplyCase : Stage → Reply → Progress → Type 0
ReplyCase stage reply p = Plain p ⊎ (Listens reply p ⊎ (StaysSo stage p ⊎ OfRecording stage reply p))

plain_last : (text : List ℕ) (reply : Reply) (payload : List ℕ) → Plain (after_reply (AwaitsLast text) reply payload)
unfolding after_reply
plain_last [] reply payload = record { other = refl; apart = refl; few = omega arith; none = refl }
plain_last (c ∷ cs) reply payload = record { other = refl; apart = refl; few = omega arith; none = refl }

reply_case : (stage : Stage) (reply : Reply) (payload : List ℕ) → ReplyCase stage reply (after_reply stage reply payload)
unfolding after_reply
reply_case AwaitsFacts reply payload = inl (record { other = refl; apart = refl; few = omega arith; none = refl })
reply_case AwaitsState reply payload = inl (record { other = refl; apart = refl; few = omega arith; none = refl })
reply_case (AwaitsLast text) reply payload = inl (plain_last text reply payload)
reply_case (AwaitsEntry purpose name) reply payload = inl (plain_entry_read purpose name (one_entry_in (bytes_given reply)) payload)
reply_case (AwaitsValue e) reply payload =
    inl (if_both Plain (length (bytes_given reply) == e.size) _ _
    (λ t. record { other = refl; apart = refl; few = omega arith; none = refl }) (λ t. plain_end _))
reply_case (AwaitsHandle value) reply payload =
    inl (if_both Plain (length (bytes_given reply) == 4) _ _ (λ t. record { other = refl; apart = refl; few = omega arith; none = refl }) (λ t. plain_end _))
reply_case (AwaitsWrite handle) reply payload = inl (record { other = refl; apart = refl; few = omega arith; none = refl })
reply_case AwaitsUploadInfo reply payload =
    inl (if_both Plain (length (bytes_given reply) == 8) _ _ (λ t. record { other = refl; apart = refl; few = omega arith; none = refl }) (λ t. plain_end _))
reply_case (AwaitsUpload count) reply payload = inl (plain_upload (entries_in count (bytes_given reply)) payload)
reply_case (AwaitsNotification e watching) reply payload = inr (inl (record { entry = e; left = watching.count; now = refl }))
reply_case (Watches e handle left) reply payload = inr (inr (inl (record { now = refl })))
reply_case (AwaitsTypeInfo name e) reply payload =
    inl (if_both Plain (length (bytes_given reply) == 24) _ _ (λ t. record { other = refl; apart = refl; few = omega arith; none = refl }) (λ t. plain_end _))
reply_case (AwaitsTypes name e count) reply payload = inl (plain_types name e (types_in count (bytes_given reply)) payload)
reply_case (AwaitsLeaves size leaves) reply payload =
    inl (if_both Plain (length (bytes_given reply) == size) _ _ (λ t. plain_prints _ _ leaves) (λ t. plain_end _))
reply_case (Records wait r) reply payload =
    inr (inr (inr (record { wait = wait; recording = r; was = refl; on = reply_on wait r reply payload })))
reply_case (FinishedRecording end entries) reply payload = inl (record { other = refl; apart = refl; few = omega arith; none = refl })
reply_case (Finished end) reply payload = inl (record { other = refl; apart = refl; few = omega arith; none = refl })

abbrev pub AnswerCase : Stage → Option Reply → Progress → Type 0
AnswerCase stage None p = Plain p
AnswerCase stage (Some reply) p = ReplyCase stage reply p

pub answer_case : (stage : Stage) (error : ℕ) (o : Option Reply) (payload : List ℕ) → AnswerCase stage o (after_answer stage error o payload)
unfolding after_answer
answer_case stage error None payload = if_both Plain (error == 0) _ _ (λ t. plain_ended stage _) (λ t. plain_ended stage _)
answer_case stage error (Some reply) payload =
    if_both (ReplyCase stage reply) (error == 0) _ _
    (λ t. if_both (ReplyCase stage reply) (result_of reply == 0) _ _ (λ u. reply_case stage reply payload) (λ u. inl (plain_ended stage _)))
    (λ t. inl (plain_ended stage _))

-- a progress over so many requests that wait
pub record SteadyOver (n : ℕ) (p : Progress) : Type 0 where
  pub few : sends_of p.outputs + n ≤ 1
  pub quiet : is_listening p.stage ≡ true → sends_of p.outputs + n ≡ 0

plain_steady : (p : Progress) → Plain p → SteadyOver 0 p
plain_steady p h = let l = h.few in record { few = omega (arith, l); quiet = λ e. absurd (false≢true (sym h.other ∙ e)) }

stay_steady : (stage : Stage) (n : ℕ) → n ≤ 1 → (is_listening stage ≡ true → n ≡ 0) → SteadyOver n (stay stage)
stay_steady stage n l q = record { few = omega (arith, l); quiet = λ e. let z = q e in omega (arith, z) }

answer_steady : (stage : Stage) (o : Option Reply) (p : Progress) → AnswerCase stage o p → SteadyOver 0 p
answer_steady stage None p h = plain_steady p h
answer_steady stage (Some reply) p (inl h) = plain_steady p h
answer_steady stage (Some reply) p (inr (inl h)) = subst (SteadyOver 0) (sym h.now) (record { few = omega arith; quiet = λ e. refl })
answer_steady stage (Some reply) p (inr (inr (inl h))) = subst (SteadyOver 0) (sym h.now) (stay_steady stage 0 (omega arith) (λ e. refl))
answer_steady stage (Some reply) p (inr (inr (inr h))) = record { few = h.on.few; quiet = h.on.quiet }

end_steady : (stage : Stage) (end : CallEnd) (n : ℕ) → n ≤ 1 → SteadyOver n (ended_at stage end)
end_steady (Records wait r) end n l = record { few = omega (arith, l); quiet = λ e. absurd (false≢true e) }
end_steady stage end n l = record { few = omega (arith, l); quiet = λ e. absurd (false≢true e) }

sample_steady : (e : SymbolEntry) (watched left handle time : ℕ) (bytes : List ℕ) → SteadyOver 0 (after_sample (Watches e watched left) handle time bytes)
unfolding after_sample
sample_steady e watched left handle time bytes =
    if_both (SteadyOver 0) (handle == watched) _ _ (λ t. of_left left) (λ t. stay_steady (Watches e watched left) 0 (omega arith) (λ l. refl))
  where
    last : (left : ℕ) (text : List ℕ) → SteadyOver 0 (with_samples_left e watched left text)
    last zero text = record { few = omega arith; quiet = λ l. absurd (false≢true l) }
    last (suc n) text = record { few = omega arith; quiet = λ l. refl }

    of_left : (left : ℕ) → SteadyOver 0 (after_watched_sample e watched left time bytes)
    of_left zero = stay_steady (Watches e watched 0) 0 (omega arith) (λ l. refl)
    of_left (suc n) = last n _

ended_steady : (e : SymbolEntry) (watched left handle : ℕ) → SteadyOver 0 (after_end (Watches e watched left) handle)
unfolding after_end
ended_steady e watched left handle =
    if_both (SteadyOver 0) (handle == watched) _ _ (λ t. record { few = omega arith; quiet = λ l. absurd (false≢true l) })
    (λ t. stay_steady (Watches e watched left) 0 (omega arith) (λ l. refl))

-- what ends no request
other_steady : (stage : Stage) (h : Heard) (n : ℕ) → EndsNone h → n ≤ 1 → (is_listening stage ≡ true → n ≡ 0) → SteadyOver n (after_heard stage h)
unfolding after_heard after_sample after_end
other_steady stage (Answered id error command payload) n e l q = absurd e
other_steady stage (TimedOut id sent now) n e l q = absurd e
other_steady (Watches s watched left) (Sampled handle time bytes) n e l q =
    subst (λ k. SteadyOver k (after_sample (Watches s watched left) handle time bytes)) (sym (q refl)) (sample_steady s watched left handle time bytes)
other_steady (Records wait r) (Sampled handle time bytes) n e l q =
    let g = sample_on wait r time bytes (recorded_at r handle) n l q in record { few = g.few; quiet = g.quiet }
other_steady stage (Sampled handle time bytes) n e l q = stay_steady stage n l q
other_steady (Watches s watched left) (Ended handle) n e l q =
    subst (λ k. SteadyOver k (after_end (Watches s watched left) handle)) (sym (q refl)) (ended_steady s watched left handle)
other_steady (Records wait r) (Ended handle) n e l q =
    let g = end_on wait r handle n l q in record { few = g.few; quiet = g.quiet }
other_steady stage (Ended handle) n e l q = stay_steady stage n l q
other_steady stage (Stray id) n e l q = stay_steady stage n l q
other_steady stage NotYet n e l q = stay_steady stage n l q
other_steady stage (Broken peer) n e l q = end_steady stage _ n l

-- requests without one

without-shorter : (test : Unanswered → Bool) (us : List Unanswered) → length (without_first test us) ≤ length us
unfolding without_first
without-shorter test [] = omega arith
without-shorter test (u ∷ us) =
    elim (cases_Bool (test u)) [
      | inl t ↦ rw t (omega arith)
      | inr t ↦ let l = without-shorter test us in rw t (omega (arith, l))
    ]

without-one : (test : Unanswered → Bool) (us : List Unanswered) → list_any test us ≡ true → length us ≡ suc (length (without_first test us))
unfolding without_first
without-one test [] e = absurd (false≢true e)
without-one test (u ∷ us) e =
    elim (cases_Bool (test u)) [
      | inl t ↦ rw t refl
      | inr t ↦ let f : list_any test us ≡ true = rw t at e in let l = without-one test us f in rw t (ap (λ n. suc n) l)
    ]

-- a hearing of a client that waits for one answer at most
pub heard_steady : (stage : Stage) (c : Client) (x : Hearing) → HearingCase c x → length c.unanswered ≤ 1
    → (is_listening stage ≡ true → length c.unanswered ≡ 0) → SteadyOver (length x.client.unanswered) (after_heard stage x.heard)
unfolding after_heard
heard_steady stage c x (inl t) l q =
    let fewer = without-shorter (is_timed_out_at t.request.id) c.unanswered in
    let same = ap length t.left in
    subst (λ h. SteadyOver (length x.client.unanswered) (after_heard stage h)) (sym t.heard)
    (end_steady stage _ (length x.client.unanswered) (omega (arith, l, fewer, same)))
heard_steady stage c x (inr (inl a)) l q =
    let h = a.header in
    let some = list_any (λ (u : Unanswered). is_outstanding_at h.id u && (u.command == h.command)) c.unanswered in
    let p = and_parts (some && is_same_address h.source c.peer) (is_same_address h.target c.me) a.answer in
    let r = and_parts some (is_same_address h.source c.peer) (p.0) in
    let one = without-one (is_outstanding_at h.id) c.unanswered (asked-any h.id h.command c.unanswered (r.0)) in
    let same = ap length a.left in
    let none : length x.client.unanswered ≡ 0 = omega (arith, l, one, same) in
    let payload = payload_of a.packet in
    subst (λ y. SteadyOver (length x.client.unanswered) (after_heard stage y)) (sym a.heard)
    (subst (λ n. SteadyOver n (after_answer stage h.error (reply_of h.command payload) payload)) (sym none)
    (answer_steady stage (reply_of h.command payload) (after_answer stage h.error (reply_of h.command payload) payload)
    (answer_case stage h.error (reply_of h.command payload) payload)))
heard_steady stage c x (inr (inr n)) l q =
    let same = ap length (sym n.left) in
    subst (λ k. SteadyOver k (after_heard stage x.heard)) same (other_steady stage x.heard (length c.unanswered) n.heard l q)

-- a runner
pub record Steady (r : Runner) : Type 0 where
  pub few : sends_of r.pending + length r.client.unanswered ≤ 1
  pub quiet : is_listening r.stage ≡ true → sends_of r.pending + length r.client.unanswered ≡ 0

pub record GoodTurn (now : ℕ) (t : Turned) : Type 0 where
  pub steady : Steady t.runner
  pub sends : (bytes : List ℕ) → t.step ≡ Send bytes → IsSentAlone now bytes t.runner.client

empty_is : (us : List Unanswered) → length us ≡ 0 → us ≡ []
empty_is [] e = refl
empty_is (u ∷ us) e = absurd (omega (arith, e))

no_send : {X : Type 0} (step : CallStep) → (step ≡ Wait) → (bytes : List ℕ) → step ≡ Send bytes → X
no_send step e bytes f = let g : Wait ≡ Send bytes = sym e ∙ f in cc

rests : (now : ℕ) (stage : Stage) (r : Runner) → Steady r → GoodTurn now (resting stage r)
rests now (Finished end) r s = record { steady = s; sends = λ bytes e. cc }
rests now (FinishedRecording end entries) r s = record { steady = s; sends = λ bytes e. cc }
rests now stage r s = record { steady = s; sends = λ bytes e. cc }

pub given_good : (now : ℕ) (output : Output) (outputs : List Output) (r : Runner) → r.pending ≡ output ∷ outputs → Steady r
    → GoodTurn now (given now output (record r { pending = outputs }))
unfolding given client_after_issue
given_good now (ToPrint text) outputs r e s =
    let l = s.few in
    let same = ap sends_of e in
    record {
      steady = record { few = omega (arith, l, same); quiet = λ h. let z = s.quiet h in omega (arith, z, same) };
      sends = λ bytes f. cc;
    }
given_good now (ToKeep row) outputs r e s =
    let l = s.few in
    let same = ap sends_of e in
    record {
      steady = record { few = omega (arith, l, same); quiet = λ h. let z = s.quiet h in omega (arith, z, same) };
      sends = λ bytes f. cc;
    }
given_good now (ToSend request) outputs r e s =
    let c = r.client in
    let l = s.few in
    let same = ap sends_of e in
    let none : length c.unanswered ≡ 0 = omega (arith, l, same) in
    let empty = empty_is c.unanswered none in
    let room : is_full c ≡ false = ap (λ us. nat_le 64 (outstanding_count us)) empty in
    let new : Unanswered = record { id = next_id c; command = command_of request; sent = now; timed_out = None } in
    let alone : c.unanswered ++ new ∷ [] ≡ new ∷ [] = ap (λ us. us ++ new ∷ []) empty in
    let one : length (c.unanswered ++ new ∷ []) ≡ 1 = ap length alone in
    rw room (record {
      steady = record { few = omega (arith, l, same, one, none); quiet = λ h. let z = s.quiet h in absurd (omega (arith, z, same)) };
      sends = λ bytes f. let g : request_frame c (next_id c) request ≡ bytes = sent_is f in
          record { id = next_id c; request = request; frame = sym g; alone = alone };
    })
  where
    sent_is : {a b : List ℕ} → Send a ≡ Send b → a ≡ b
    sent_is q = cc

giving : (now : ℕ) (r : Runner) (rest : Turned) → Steady r → (r.pending ≡ [] → GoodTurn now rest) → GoodTurn now (turn_giving now r.pending r rest)
giving now r rest s h = go r.pending refl
  where
    go : (outputs : List Output) → r.pending ≡ outputs → GoodTurn now (turn_giving now outputs r rest)
    go [] e = h e
    go (output ∷ outputs) e = given_good now output outputs r e s

hears : (r : Runner) → Steady r → r.pending ≡ [] → Steady (runner_after_hearing r.stage (next_hearing r.client))
unfolding runner_after_hearing
hears r s e =
    let l = s.few in
    let none = ap sends_of e in
    let h = heard_steady r.stage r.client (next_hearing r.client) (next_case r.client) (omega (arith, l, none))
    (λ q. let z = s.quiet q in omega (arith, z, none)) in
    record { few = h.few; quiet = h.quiet }

turn_good : (n now : ℕ) (r : Runner) → Steady r → GoodTurn now (turn_within n now r)
unfolding turn_within
turn_good zero now r s = giving now r (resting r.stage r) s (λ e. rests now r.stage r s)
turn_good (suc n) now r s =
    let x = next_hearing r.client in
    let heard = runner_after_hearing r.stage x in
    giving now r _ s
    (λ e. if_both (GoodTurn now) (is_over r.stage) _ _ (λ t. rests now r.stage r s)
    (λ t. if_both (GoodTurn now) (is_not_yet x.heard) _ _ (λ u. rests now r.stage heard (hears r s e)) (λ u. turn_good n now heard (hears r s e))))

pub begun_steady : (me peer : AmsAddress) (call : Call) → Steady (new_runner me peer call)
unfolding begun
begun_steady me peer Info = record { few = omega arith; quiet = λ e. absurd (false≢true e) }
begun_steady me peer State = record { few = omega arith; quiet = λ e. absurd (false≢true e) }
begun_steady me peer (Control ads device) = record { few = omega arith; quiet = λ e. absurd (false≢true e) }
begun_steady me peer (Get name) = record { few = omega arith; quiet = λ e. absurd (false≢true e) }
begun_steady me peer (Set name text) = record { few = omega arith; quiet = λ e. absurd (false≢true e) }
begun_steady me peer Symbols = record { few = omega arith; quiet = λ e. absurd (false≢true e) }
begun_steady me peer (Watch name watching) = record { few = omega arith; quiet = λ e. absurd (false≢true e) }
begun_steady me peer (Show name) = record { few = omega arith; quiet = λ e. absurd (false≢true e) }
begun_steady me peer (Record names watching first) = let g = begins_on names watching first in record { few = g.few; quiet = g.quiet }

pub move_steady : (r : Runner) (m : RunMove) → Steady r → Steady (runner_after_move r m)
unfolding runner_after_move client_after_tick
move_steady r (run.Fed piece) s = record { few = s.few; quiet = s.quiet }
move_steady r (run.Ticked now) s =
    let same = length-map r.client.unanswered (after_tick_of now) in
    let l = s.few in
    record { few = omega (arith, l, same); quiet = λ e. let z = s.quiet e in omega (arith, z, same) }
move_steady r (run.Turned now) s = (turn_good (hearings_left r.client) now r s).steady

all_steady : (moves : List RunMove) (r : Runner) → Steady r → Steady (runner_after r moves)
unfolding runner_after
all_steady [] r s = s
all_steady (m ∷ ms) r s = all_steady ms (runner_after_move r m) (move_steady r m s)

pub sends_one_by_one : SendsOneByOne
sends_one_by_one me peer call moves now bytes e =
    let r = runner_after (new_runner me peer call) moves in
    (turn_good (hearings_left r.client) now r (all_steady moves (new_runner me peer call) (begun_steady me peer call))).sends bytes e
