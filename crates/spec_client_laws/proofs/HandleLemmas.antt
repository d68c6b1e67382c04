-- A call takes samples of a handle alone that an answer gave.
use Rattle.std.proofs.Common.{◌≡◌, ◌≢◌, ℕ, zero, suc, List, [], ◌∷◌, ◌++◌, Bool, true}
use Rattle.std.proofs.Common.{false, cond, refl, sym, ap, subst, inl, inr, arith}
use Rattle.std.specs.Prelude.{Option, Some, None, ◌==◌, ◌||◌}
use Rattle.std.proofs.lemmas.Bool.{false≢true, or_right, or_left, eq-eqb, eqb-true}
use Rattle.spec_formats.specs.Header.{AmsAddress}
use Rattle.spec_formats.specs.Reply.{Reply, reply_of}
use Rattle.spec_formats.specs.SymbolEntry.{SymbolEntry}
use Rattle.spec_client.specs.Heard.{Heard, Answered, Sampled, Ended, Stray, TimedOut, NotYet, Broken}
use Rattle.spec_client.specs.Hearing.{Hearing, next_hearing, hearings_left}
use Rattle.spec_client.specs.Calls.{Call, Info, State, Control, Get, Set, Symbols, Watch, Show, Record}
use Rattle.spec_client.specs.Stages.{CallEnd, BadPeer, Output, ToSend, ToPrint, ToKeep, Stage}
use Rattle.spec_client.specs.Stages.{Recorded, Watches, Records}
use Rattle.spec_client.specs.Stages as stages
use Rattle.spec_client.specs.Stages.{Finished, FinishedRecording, Progress, stay, ended_at}
use Rattle.spec_client.specs.Replies.{handle_given}
use Rattle.spec_client.specs.Recordings.{recorded_at, after_record_sample}
use Rattle.spec_client.specs.Steps.{with_samples_left, after_watched_sample, after_sample, after_end, after_heard, begun}
use Rattle.spec_client.specs.Runner.{Runner, new_runner, given, resting, is_over}
use Rattle.spec_client.specs.Runner.{is_not_yet, runner_after_hearing, turn_giving, turn_within}
use Rattle.spec_client_laws.specs.Runs.{RunMove, runner_after_move, runner_after, IsSentAlone, SendsOneByOne, HeardAt}
use Rattle.spec_client_laws.specs.Runs.{has_some, heard_within, heard_at_move, heard_in, handle_of_reply, handles_of}
use Rattle.spec_client_laws.specs.Runs.{is_known, TakesKnown, TakesGivenAfter, PrintsGivenSamples}
use Rattle.spec_client_laws.specs.Runs as run
use Rattle.spec_client_laws.proofs.HearingCases.{if_both}
use Rattle.spec_client_laws.proofs.RecordingLemmas.{is_listening, WatchesKnown, AllKnown, all_more, found_known, sample_on, end_on, begins_on}
use Rattle.spec_client_laws.proofs.RunLemmas.{is_recording, Plain, plain_ended, AnswerCase, answer_case}

not_listening : (known : List ℕ) (stage : Stage) → is_listening stage ≡ false → is_recording stage ≡ false → WatchesKnown known stage
not_listening known (Watches e handle left) h g = absurd (false≢true (sym h))
not_listening known (Records wait r) h g = absurd (false≢true (sym g))
not_listening known stage h g = tt

plain_known : (known : List ℕ) (p : Progress) → Plain p → WatchesKnown known p.stage
plain_known known p h = not_listening known p.stage h.other h.apart

more_known : (x : ℕ) (known : List ℕ) (stage : Stage) → WatchesKnown known stage → WatchesKnown (x ∷ known) stage
more_known x known (Watches e handle left) h = or_right (x == handle) (is_known handle known) h
more_known x known (Records wait r) h = all_more x known r.notifications h
more_known x known stage h = tt

answer_known : (known : List ℕ) (stage : Stage) (o : Option Reply) (p : Progress) → AnswerCase stage o p → WatchesKnown known stage
    → WatchesKnown (handle_of_reply o ++ known) p.stage
answer_known known stage None p h w = plain_known known p h
answer_known known stage (Some reply) p (inl h) w = plain_known (handle_given reply ∷ known) p h
answer_known known stage (Some reply) p (inr (inl h)) w =
    let g = handle_given reply in
    subst (λ (q : Progress). WatchesKnown (g ∷ known) q.stage) (sym h.now) (or_left (g == g) (is_known g known) (eq-eqb g g refl))
answer_known known stage (Some reply) p (inr (inr (inr h))) w = h.on.heard known (subst (WatchesKnown known) h.was w)
answer_known known stage (Some reply) p (inr (inr (inl h))) w =
    subst (λ (q : Progress). WatchesKnown (handle_given reply ∷ known) q.stage) (sym h.now) (more_known (handle_given reply) known stage w)

sample_known : (known : List ℕ) (e : SymbolEntry) (watched left handle time : ℕ) (bytes : List ℕ) → is_known watched known ≡ true
    → WatchesKnown known (after_sample (Watches e watched left) handle time bytes).stage
unfolding after_sample
sample_known known e watched left handle time bytes w =
    if_both (λ (p : Progress). WatchesKnown known p.stage) (handle == watched) _ _ (λ t. of_left left) (λ t. w)
  where
    last : (left : ℕ) (text : List ℕ) → is_known watched known ≡ true → WatchesKnown known (with_samples_left e watched left text).stage
    last zero text w = tt
    last (suc n) text w = w

    of_left : (left : ℕ) → WatchesKnown known (after_watched_sample e watched left time bytes).stage
    of_left zero = w
    of_left (suc n) = last n _ w

heard_known : (known : List ℕ) (stage : Stage) (h : Heard) → WatchesKnown known stage → WatchesKnown (handles_of h ++ known) (after_heard stage h).stage
unfolding after_heard after_sample after_end
heard_known known stage (Answered id error command payload) w =
    answer_known known stage (reply_of command payload) _ (answer_case stage error (reply_of command payload) payload) w
heard_known known (Watches e watched left) (Sampled handle time bytes) w = sample_known known e watched left handle time bytes w
heard_known known (Records wait r) (Sampled handle time bytes) w =
    (sample_on wait r time bytes (recorded_at r handle) 0 (omega arith) (λ e. refl)).heard known w
heard_known known stage (Sampled handle time bytes) w = w
heard_known known (Watches e watched left) (Ended handle) w = if_both (λ (p : Progress). WatchesKnown known p.stage) (handle == watched) _ _ (λ t. tt) (λ t. w)
heard_known known (Records wait r) (Ended handle) w = (end_on wait r handle 0 (omega arith) (λ e. refl)).heard known w
heard_known known stage (Ended handle) w = w
heard_known known stage (Stray id) w = w
heard_known known stage (TimedOut id sent now) w = plain_known known _ (plain_ended stage (stages.TimedOut sent now))
heard_known known stage NotYet w = w
heard_known known stage (Broken peer) w = plain_known known _ (plain_ended stage (BadPeer peer))

-- a sample at which something is done is the watched one
takes_known : (known : List ℕ) (stage : Stage) (h : Heard) → WatchesKnown known stage → TakesKnown known (record { stage = stage; heard = h })
unfolding after_heard after_sample
takes_known known stage h w handle time bytes e some = at_stage stage w (subst (λ (x : Heard). (after_heard stage x).outputs ≢ []) e some)
  where
    at_stage : (s : Stage) → WatchesKnown known s → (after_heard s (Sampled handle time bytes)).outputs ≢ [] → is_known handle known ≡ true
    at_stage (Watches e watched left) w some = go (handle == watched) refl some
      where
        go : (b : Bool) → (handle == watched) ≡ b → (cond b (after_watched_sample e watched left time bytes) (stay (Watches e watched left))).outputs ≢ []
            → is_known handle known ≡ true
        go true t some = subst (λ k. is_known k known ≡ true) (sym (eqb-true handle watched t)) w
        go false t some = absurd (some refl)
    at_stage (Records wait r) w some = found (recorded_at r handle) refl some
      where
        found : (o : Option Recorded) → recorded_at r handle ≡ o → (after_record_sample wait r time bytes o).outputs ≢ [] → is_known handle known ≡ true
        found None t some = absurd (some refl)
        found (Some n) t some = found_known known handle r.notifications n t w
    at_stage s w some = absurd (some refl)

abbrev known_after : List ℕ → List HeardAt → List ℕ
known_after known [] = known
known_after known (x ∷ xs) = known_after (handles_of x.heard ++ known) xs

-- what is heard takes known samples, and leaves a stage whose handle is known
record KnowsAfter (known : List ℕ) (xs : List HeardAt) (stage : Stage) : Type 0 where
  takes : TakesGivenAfter known xs
  later : WatchesKnown (known_after known xs) stage

resting-stage : (stage : Stage) (r : Runner) → (resting stage r).runner ≡ r
resting-stage (Finished end) r = refl
resting-stage (FinishedRecording end entries) r = refl
resting-stage stage r = refl

given-stage : (now : ℕ) (output : Output) (r : Runner) → (given now output r).runner.stage ≡ r.stage
unfolding given
given-stage now (ToSend request) r = refl
given-stage now (ToPrint text) r = refl
given-stage now (ToKeep row) r = refl

nothing_heard : (known : List ℕ) (stage later : Stage) → later ≡ stage → WatchesKnown known stage → KnowsAfter known [] later
nothing_heard known stage later e w = record { takes = tt; later = subst (WatchesKnown known) (sym e) w }

turn_knows : (n now : ℕ) (r : Runner) (known : List ℕ) → WatchesKnown known r.stage → KnowsAfter known (heard_within n r) (turn_within n now r).runner.stage
unfolding turn_within heard_within runner_after_hearing
turn_knows zero now r known w = go r.pending
  where
    go : (outputs : List Output) → KnowsAfter known [] (turn_giving now outputs r (resting r.stage r)).runner.stage
    go [] = nothing_heard known r.stage _ (ap (λ (x : Runner). x.stage) (resting-stage r.stage r)) w
    go (output ∷ outputs) = nothing_heard known r.stage _ (given-stage now output (record r { pending = outputs })) w
turn_knows (suc n) now r known w =
    go (turn_knows n now (runner_after_hearing r.stage (next_hearing r.client)) (handles_of (next_hearing r.client).heard ++ known)
    (heard_known known r.stage (next_hearing r.client).heard w)) r.pending
  where
    x : Hearing
    x = next_hearing r.client

    heard : Runner
    heard = runner_after_hearing r.stage x

    here : HeardAt
    here = record { stage = r.stage; heard = x.heard }

    known_then : List ℕ
    known_then = handles_of x.heard ++ known

    -- something is heard
    hears_more : KnowsAfter known_then (heard_within n heard) (turn_within n now heard).runner.stage → (b : Bool)
        → KnowsAfter known (here ∷ cond b [] (heard_within n heard)) (cond b (resting r.stage heard) (turn_within n now heard)).runner.stage
    hears_more rest true = record {
      takes = (takes_known known r.stage x.heard w, tt);
      later = subst (WatchesKnown known_then) (sym (ap (λ (y : Runner). y.stage) (resting-stage r.stage heard))) (heard_known known r.stage x.heard w);
    }
    hears_more rest false = record { takes = (takes_known known r.stage x.heard w, rest.takes); later = rest.later }

    unless_over : KnowsAfter known_then (heard_within n heard) (turn_within n now heard).runner.stage → (b : Bool)
        → KnowsAfter known (cond b [] (here ∷ cond (is_not_yet x.heard) [] (heard_within n heard)))
        (cond b (resting r.stage r) (cond (is_not_yet x.heard) (resting r.stage heard) (turn_within n now heard))).runner.stage
    unless_over rest true = nothing_heard known r.stage _ (ap (λ (y : Runner). y.stage) (resting-stage r.stage r)) w
    unless_over rest false = hears_more rest (is_not_yet x.heard)

    go : KnowsAfter known_then (heard_within n heard) (turn_within n now heard).runner.stage → (outputs : List Output)
        → KnowsAfter known (cond (has_some outputs || is_over r.stage) [] (here ∷ cond (is_not_yet x.heard) [] (heard_within n heard)))
        (turn_giving now outputs r (cond (is_over r.stage) (resting r.stage r)
        (cond (is_not_yet x.heard) (resting r.stage heard) (turn_within n now heard)))).runner.stage
    go rest [] = unless_over rest (is_over r.stage)
    go rest (output ∷ outputs) = nothing_heard known r.stage _ (given-stage now output (record r { pending = outputs })) w

takes-append : (known : List ℕ) (xs ys : List HeardAt) → TakesGivenAfter known xs → TakesGivenAfter (known_after known xs) ys → TakesGivenAfter known (xs ++ ys)
takes-append known [] ys p q = q
takes-append known (x ∷ xs) ys p q = (p.0, takes-append (handles_of x.heard ++ known) xs ys (p.1) q)

move_knows : (r : Runner) (m : RunMove) (known : List ℕ) → WatchesKnown known r.stage → KnowsAfter known (heard_at_move r m) (runner_after_move r m).stage
unfolding runner_after_move
move_knows r (run.Fed piece) known w = record { takes = tt; later = w }
move_knows r (run.Ticked now) known w = record { takes = tt; later = w }
move_knows r (run.Turned now) known w = turn_knows (hearings_left r.client) now r known w

moves_know : (ms : List RunMove) (r : Runner) (known : List ℕ) → WatchesKnown known r.stage → TakesGivenAfter known (heard_in r ms)
unfolding heard_in
moves_know [] r known w = tt
moves_know (m ∷ ms) r known w =
    let k = move_knows r m known w in
    takes-append known (heard_at_move r m) (heard_in (runner_after_move r m) ms) k.takes
    (moves_know ms (runner_after_move r m) (known_after known (heard_at_move r m)) k.later)

begun_knows : (me peer : AmsAddress) (call : Call) → WatchesKnown [] (new_runner me peer call).stage
unfolding begun
begun_knows me peer Info = tt
begun_knows me peer State = tt
begun_knows me peer (Control ads device) = tt
begun_knows me peer (Get name) = tt
begun_knows me peer (Set name text) = tt
begun_knows me peer Symbols = tt
begun_knows me peer (Watch name watching) = tt
begun_knows me peer (Show name) = tt
begun_knows me peer (Record names watching first) = (begins_on names watching first).heard [] tt

pub prints_given_samples : PrintsGivenSamples
prints_given_samples me peer call moves = moves_know moves (new_runner me peer call) [] (begun_knows me peer call)
