-- The rows that a call gives to be kept are counted from its first one on.
use Rattle.std.proofs.Common.{◌≡◌, ℕ, zero, suc, ◌+◌, ◌≤◌, ◌<◌, List, [], ◌∷◌, ◌++◌, length, Bool, true, false, refl, sym, ap, subst, inl, inr, arith}
use Rattle.std.specs.Prelude.{Option, Some, None, ◌==◌}
use Rattle.std.proofs.lemmas.Bool.{false≢true}
use Rattle.std.proofs.lemmas.List.{length-append}
use Rattle.spec_formats.specs.Header.{AmsAddress}
use Rattle.spec_formats.specs.Reply.{Reply, reply_of}
use Rattle.spec_formats.specs.SymbolEntry.{SymbolEntry}
use Rattle.spec_samples.specs.Row.{Row}
use Rattle.spec_samples.specs.Laws.{AreCountedFrom}
use Rattle.spec_client.specs.Heard.{Heard, Answered, Sampled, Ended, Stray, TimedOut, NotYet, Broken}
use Rattle.spec_client.specs.Client.{Client, client_after_issue}
use Rattle.spec_client.specs.Hearing.{Hearing, next_hearing, hearings_left}
use Rattle.spec_client.specs.Calls.{Call, Info, State, Control, Get, Set, Symbols, Watch, Show, Record}
use Rattle.spec_client.specs.Stages.{BadPeer, Output, ToSend, ToPrint, ToKeep, Recorded, Stage, Watches, Records, Finished, FinishedRecording, Progress, stay}
use Rattle.spec_client.specs.Stages as stages
use Rattle.spec_client.specs.Recordings.{recorded_at}
use Rattle.spec_client.specs.Replies.{handle_given, after_answer}
use Rattle.spec_client.specs.Steps.{with_samples_left, after_watched_sample, after_sample, after_end, after_heard, begun}
use Rattle.spec_client.specs.Runner.{Runner, CallStep, Keep, Turned, Turns, new_runner, given, resting, runner_after_hearing, is_over, is_not_yet}
use Rattle.spec_client.specs.Runner.{all_given, joined, turn_giving, turn_within, turn, turns_within, turns}
use Rattle.spec_client.specs.Conversation.{LinkAnswer, LoopEnd, Conversation, kept_by, moment_of, runner_after_answer}
use Rattle.spec_client.specs.Conversation.{with_answer, unless_ended, after_answer_unless, conversation_begun}
use Rattle.spec_client.specs.Conversation.{conversation_after_turns, conversation_going_on, conversation_after}
use Rattle.spec_client.specs.CallOver.{conversation_after_all}
use Rattle.spec_client.proofs.TurnsUnfolded.{at}
use Rattle.spec_client_laws.specs.KeptRows.{first_row, row_limit, IsCounted, KeepsCounted}
use Rattle.spec_client_laws.proofs.HearingCases.{if_both}
use Rattle.spec_client_laws.proofs.RecordingLemmas.{rows_in, Stands, GoesOn, sample_on, end_on, begins_on}
use Rattle.spec_client_laws.proofs.RunLemmas.{is_recording, Plain, plain_ended, AnswerCase, answer_case}

-- what is done counts its rows, behind so many
record CountsRows (first limit kept : ℕ) (p : Progress) : Type 0 where
  rows : AreCountedFrom (first + kept) (rows_in p.outputs)
  stands : Stands first limit (kept + length (rows_in p.outputs)) p.stage

few_so : (first limit kept : ℕ) (stage : Stage) → Stands first limit kept stage → kept ≤ limit
few_so first limit kept (Records wait r) s = s.3
few_so first limit kept stage s = s

other_stands : (first limit kept : ℕ) (stage : Stage) → is_recording stage ≡ false → kept ≤ limit → Stands first limit kept stage
other_stands first limit kept (Records wait r) e l = absurd (false≢true (sym e))
other_stands first limit kept stage e l = l

keeps_none : (first limit kept : ℕ) (p : Progress) → rows_in p.outputs ≡ [] → Stands first limit kept p.stage → CountsRows first limit kept p
unfolding AreCountedFrom
keeps_none first limit kept p none s =
    let same : kept ≡ kept + 0 = omega arith in
    record { rows = rw none tt; stands = rw none (subst (λ n. Stands first limit n p.stage) same s) }

plain_counts : (first limit kept : ℕ) (p : Progress) → Plain p → kept ≤ limit → CountsRows first limit kept p
plain_counts first limit kept p h l = keeps_none first limit kept p h.none (other_stands first limit kept p.stage h.apart l)

-- a recording that goes on
on_counts : (first limit kept : ℕ) (more : List ℕ) (ns : List Recorded) (f k count n : ℕ) (p : Progress) → GoesOn more ns f k count n p
    → f ≡ first → k ≡ kept → count ≤ limit → kept ≤ limit → CountsRows first limit kept p
on_counts first limit kept more ns f k count n p g e d c l =
    let sum : f + k ≡ first + kept = omega (arith, e, d) in
    let few : k ≤ limit = omega (arith, d, l) in
    let here = length (rows_in p.outputs) in
    record {
      rows = subst (λ x. AreCountedFrom x (rows_in p.outputs)) sum g.rows;
      stands = subst (λ x. Stands x limit (kept + here) p.stage) e (subst (λ y. Stands f limit (y + here) p.stage) d (g.stands limit few c));
    }

answer_counts : (first limit kept : ℕ) (stage : Stage) (o : Option Reply) (p : Progress) → AnswerCase stage o p → Stands first limit kept stage
    → CountsRows first limit kept p
answer_counts first limit kept stage None p h s = plain_counts first limit kept p h (few_so first limit kept stage s)
answer_counts first limit kept stage (Some reply) p (inl h) s = plain_counts first limit kept p h (few_so first limit kept stage s)
answer_counts first limit kept stage (Some reply) p (inr (inl h)) s =
    subst (CountsRows first limit kept) (sym h.now)
    (keeps_none first limit kept (stay (Watches h.entry (handle_given reply) h.left)) refl (few_so first limit kept stage s))
answer_counts first limit kept stage (Some reply) p (inr (inr (inl h))) s =
    subst (CountsRows first limit kept) (sym h.now) (keeps_none first limit kept (stay stage) refl s)
answer_counts first limit kept stage (Some reply) p (inr (inr (inr h))) s =
    let r = h.recording in
    let was : Stands first limit kept (Records h.wait r) = subst (Stands first limit kept) h.was s in
    on_counts first limit kept (handle_given reply ∷ []) r.notifications r.first r.kept r.watching.count 0 p h.on (was.0) (was.1) (was.2) (was.3)

sample_counts : (first limit kept : ℕ) (e : SymbolEntry) (watched left handle time : ℕ) (bytes : List ℕ) → kept ≤ limit
    → CountsRows first limit kept (after_sample (Watches e watched left) handle time bytes)
unfolding after_sample
sample_counts first limit kept e watched left handle time bytes l =
    if_both (CountsRows first limit kept) (handle == watched) _ _ (λ t. of_left left)
    (λ t. keeps_none first limit kept (stay (Watches e watched left)) refl l)
  where
    last : (left : ℕ) (text : List ℕ) → CountsRows first limit kept (with_samples_left e watched left text)
    last zero text = keeps_none first limit kept _ refl l
    last (suc n) text = keeps_none first limit kept _ refl l

    of_left : (left : ℕ) → CountsRows first limit kept (after_watched_sample e watched left time bytes)
    of_left zero = keeps_none first limit kept (stay (Watches e watched 0)) refl l
    of_left (suc n) = last n _

ended_counts : (first limit kept : ℕ) (e : SymbolEntry) (watched left handle : ℕ) → kept ≤ limit
    → CountsRows first limit kept (after_end (Watches e watched left) handle)
unfolding after_end
ended_counts first limit kept e watched left handle l =
    if_both (CountsRows first limit kept) (handle == watched) _ _ (λ t. keeps_none first limit kept _ refl l)
    (λ t. keeps_none first limit kept (stay (Watches e watched left)) refl l)

heard_counts : (first limit kept : ℕ) (stage : Stage) (h : Heard) → Stands first limit kept stage → CountsRows first limit kept (after_heard stage h)
unfolding after_heard after_sample after_end
heard_counts first limit kept stage (Answered id error command payload) s =
    answer_counts first limit kept stage (reply_of command payload) _ (answer_case stage error (reply_of command payload) payload) s
heard_counts first limit kept (Watches e watched left) (Sampled handle time bytes) s = sample_counts first limit kept e watched left handle time bytes s
heard_counts first limit kept (Records wait r) (Sampled handle time bytes) s =
    on_counts first limit kept [] r.notifications r.first r.kept r.watching.count 0 _
    (sample_on wait r time bytes (recorded_at r handle) 0 (omega arith) (λ e. refl)) (s.0) (s.1) (s.2) (s.3)
heard_counts first limit kept stage (Sampled handle time bytes) s = keeps_none first limit kept (stay stage) refl s
heard_counts first limit kept (Watches e watched left) (Ended handle) s = ended_counts first limit kept e watched left handle s
heard_counts first limit kept (Records wait r) (Ended handle) s =
    on_counts first limit kept [] r.notifications r.first r.kept r.watching.count 0 _
    (end_on wait r handle 0 (omega arith) (λ e. refl)) (s.0) (s.1) (s.2) (s.3)
heard_counts first limit kept stage (Ended handle) s = keeps_none first limit kept (stay stage) refl s
heard_counts first limit kept stage (Stray id) s = keeps_none first limit kept (stay stage) refl s
heard_counts first limit kept stage (TimedOut id sent now) s =
    plain_counts first limit kept _ (plain_ended stage (stages.TimedOut sent now)) (few_so first limit kept stage s)
heard_counts first limit kept stage NotYet s = keeps_none first limit kept (stay stage) refl s
heard_counts first limit kept stage (Broken peer) s = plain_counts first limit kept _ (plain_ended stage (BadPeer peer)) (few_so first limit kept stage s)

-- a runner that has given so many rows
pub record Counts (first limit kept : ℕ) (r : Runner) : Type 0 where
  pub rows : AreCountedFrom (first + kept) (rows_in r.pending)
  pub stands : Stands first limit (kept + length (rows_in r.pending)) r.stage

behind_hearing : (first limit kept : ℕ) (stage : Stage) (x : Hearing) → Stands first limit kept stage → Counts first limit kept (runner_after_hearing stage x)
unfolding runner_after_hearing
behind_hearing first limit kept stage x s =
    let c = heard_counts first limit kept stage x.heard s in record { rows = c.rows; stands = c.stands }

abbrev CountsPending : (first limit kept : ℕ) → Stage → List Output → Type 0
CountsPending first limit kept stage os = AreCountedFrom (first + kept) (rows_in os) × Stands first limit (kept + length (rows_in os)) stage

-- behind a row that is given
row_given : (first limit kept : ℕ) (stage : Stage) (row : Row) (os : List Output) → CountsPending first limit kept stage (ToKeep row ∷ os)
    → (row.number ≡ first + kept) × CountsPending first limit (kept + 1) stage os
unfolding AreCountedFrom
row_given first limit kept stage row os c =
    let next : first + kept + 1 ≡ first + (kept + 1) = omega arith in
    let all : kept + suc (length (rows_in os)) ≡ (kept + 1) + length (rows_in os) = omega arith in
    (c.0.0, (subst (λ n. AreCountedFrom n (rows_in os)) next (c.0.1), subst (λ n. Stands first limit n stage) all (c.1)))

-- a step, and the runner behind it
abbrev pub StepCounts : (first limit kept : ℕ) → CallStep → Runner → Type 0
StepCounts first limit kept (Keep row) r = (row.number ≡ first + kept) × (kept < limit) × Counts first limit (kept + 1) r
StepCounts first limit kept step r = Counts first limit kept r

resting_counts : (first limit kept now : ℕ) (stage : Stage) (r : Runner) → Counts first limit kept r
    → StepCounts first limit kept (resting stage r).step (resting stage r).runner
resting_counts first limit kept now (Finished end) r c = c
resting_counts first limit kept now (FinishedRecording end entries) r c = c
resting_counts first limit kept now stage r c = c

given_counts : (first limit kept now : ℕ) (c : Client) (stage : Stage) (o : Output) (os : List Output) → CountsPending first limit kept stage (o ∷ os)
    → StepCounts first limit kept (given now o (at c stage os)).step (given now o (at c stage os)).runner
unfolding given
given_counts first limit kept now c stage (ToSend request) os h = record { rows = h.0; stands = h.1 }
given_counts first limit kept now c stage (ToPrint text) os h = record { rows = h.0; stands = h.1 }
given_counts first limit kept now c stage (ToKeep row) os h =
    let g = row_given first limit kept stage row os h in
    let l = few_so first limit (kept + suc (length (rows_in os))) stage (h.1) in
    (g.0, omega (arith, l), record { rows = g.1.0; stands = g.1.1 })

abbrev TurnCounts : (first limit kept : ℕ) → Turned → Type 0
TurnCounts first limit kept t = StepCounts first limit kept t.step t.runner

turn_counts : (n now first limit kept : ℕ) (c : Client) (stage : Stage) (os : List Output) → CountsPending first limit kept stage os
    → TurnCounts first limit kept (turn_within n now (at c stage os))
unfolding turn_within
turn_counts zero now first limit kept c stage (o ∷ os) h = given_counts first limit kept now c stage o os h
turn_counts (suc n) now first limit kept c stage (o ∷ os) h = given_counts first limit kept now c stage o os h
turn_counts zero now first limit kept c stage [] h = resting_counts first limit kept now stage (at c stage []) (record { rows = h.0; stands = h.1 })
turn_counts (suc n) now first limit kept c stage [] h =
    let x = next_hearing c in
    let heard = runner_after_hearing stage x in
    let same : kept + 0 ≡ kept = omega arith in
    let b = behind_hearing first limit kept stage x (subst (λ k. Stands first limit k stage) same (h.1)) in
    let later = turn_counts n now first limit kept heard.client heard.stage heard.pending (b.rows, b.stands) in
    if_both (TurnCounts first limit kept) (is_over stage) _ _
    (λ t. resting_counts first limit kept now stage (at c stage []) (record { rows = h.0; stands = h.1 }))
    (λ t. if_both (TurnCounts first limit kept) (is_not_yet x.heard) _ _ (λ u. resting_counts first limit kept now stage heard b) (λ u. later))

-- a turn of a runner that has given so many rows
pub turn_counted : (first limit kept now : ℕ) (r : Runner) → Counts first limit kept r → StepCounts first limit kept (turn now r).step (turn now r).runner
turn_counted first limit kept now r c = turn_counts (hearings_left r.client) now first limit kept r.client r.stage r.pending (c.rows, c.stands)

-- turns, and the runner behind them
record TurnsCount (first limit kept : ℕ) (ts : Turns) : Type 0 where
  numbers : AreCountedFrom (first + kept) (kept_by ts.steps)
  counts : Counts first limit (kept + length (kept_by ts.steps)) ts.runner

record GivenCounts (first limit kept : ℕ) (stage : Stage) (ts : Turns) : Type 0 where
  numbers : AreCountedFrom (first + kept) (kept_by ts.steps)
  stands : Stands first limit (kept + length (kept_by ts.steps)) stage
  same_stage : ts.runner.stage ≡ stage
  given_all : ts.runner.pending ≡ []

all_counts : (now first limit kept : ℕ) (c : Client) (stage : Stage) (os : List Output) → CountsPending first limit kept stage os
    → GivenCounts first limit kept stage (all_given now os (at c stage os))
unfolding all_given given AreCountedFrom
all_counts now first limit kept c stage [] h = record { numbers = tt; stands = h.1; same_stage = refl; given_all = refl }
all_counts now first limit kept c stage (ToSend request ∷ os) h =
    let g = all_counts now first limit kept (client_after_issue c request now) stage os h in
    record { numbers = g.numbers; stands = g.stands; same_stage = g.same_stage; given_all = g.given_all }
all_counts now first limit kept c stage (ToPrint text ∷ os) h =
    let g = all_counts now first limit kept c stage os h in
    record { numbers = g.numbers; stands = g.stands; same_stage = g.same_stage; given_all = g.given_all }
all_counts now first limit kept c stage (ToKeep row ∷ os) h =
    let b = row_given first limit kept stage row os h in
    let g = all_counts now first limit (kept + 1) c stage os (b.1) in
    let ts = all_given now os (at c stage os) in
    let next : first + (kept + 1) ≡ first + kept + 1 = omega arith in
    let all : (kept + 1) + length (kept_by ts.steps) ≡ kept + suc (length (kept_by ts.steps)) = omega arith in
    record {
      numbers = (b.0, subst (λ n. AreCountedFrom n (kept_by ts.steps)) next g.numbers);
      stands = subst (λ n. Stands first limit n stage) all g.stands;
      same_stage = g.same_stage;
      given_all = g.given_all;
    }

kept-append : (a b : List CallStep) → kept_by (a ++ b) ≡ kept_by a ++ kept_by b
kept-append [] b = refl
kept-append (Keep row ∷ a) b = ap (λ l. row ∷ l) (kept-append a b)
kept-append (step ∷ a) b = kept-append a b

counted-append : (n : ℕ) (a b : List Row) → AreCountedFrom n a → AreCountedFrom (n + length a) b → AreCountedFrom n (a ++ b)
unfolding AreCountedFrom
counted-append n [] b p q = let same : n + 0 ≡ n = omega arith in subst (λ k. AreCountedFrom k b) same q
counted-append n (r ∷ a) b p q =
    let same : n + suc (length a) ≡ (n + 1) + length a = omega arith in
    (p.0, counted-append (n + 1) a b (p.1) (subst (λ k. AreCountedFrom k b) same q))

-- two parts of what is kept
both_parts : (first limit kept : ℕ) (a b : List Row) (r : Runner) → AreCountedFrom (first + kept) a → AreCountedFrom (first + (kept + length a)) b
    → Counts first limit ((kept + length a) + length b) r
    → AreCountedFrom (first + kept) (a ++ b) × Counts first limit (kept + length (a ++ b)) r
both_parts first limit kept a b r p q c =
    let same : first + (kept + length a) ≡ (first + kept) + length a = omega arith in
    let both = length-append a b in
    let all : (kept + length a) + length b ≡ kept + length (a ++ b) = omega (arith, both) in
    (counted-append (first + kept) a b p (subst (λ n. AreCountedFrom n b) same q), subst (λ n. Counts first limit n r) all c)

given_count : (now first limit kept : ℕ) (c : Client) (stage : Stage) (os : List Output) → CountsPending first limit kept stage os
    → TurnsCount first limit kept (all_given now os (at c stage os))
unfolding AreCountedFrom
given_count now first limit kept c stage os h =
    let g = all_counts now first limit kept c stage os h in
    let ts = all_given now os (at c stage os) in
    let m = kept + length (kept_by ts.steps) in
    let same : m ≡ m + 0 = omega arith in
    let there : Stands first limit (m + 0) stage = subst (λ n. Stands first limit n stage) same g.stands in
    let here : Stands first limit (m + 0) ts.runner.stage = subst (Stands first limit (m + 0)) (sym g.same_stage) there in
    let rows : rows_in ts.runner.pending ≡ [] = ap rows_in g.given_all in
    record { numbers = g.numbers; counts = record { rows = rw rows tt; stands = rw rows here } }

joined_count : (first limit kept : ℕ) (steps : List CallStep) (ts : Turns) → AreCountedFrom (first + kept) (kept_by steps)
    → TurnsCount first limit (kept + length (kept_by steps)) ts → TurnsCount first limit kept (joined steps ts)
joined_count first limit kept steps ts numbers later =
    let b = both_parts first limit kept (kept_by steps) (kept_by ts.steps) ts.runner numbers later.numbers later.counts in
    let e = sym (kept-append steps ts.steps) in
    record {
      numbers = subst (AreCountedFrom (first + kept)) e (b.0);
      counts = subst (λ (rows : List Row). Counts first limit (kept + length rows) ts.runner) e (b.1);
    }

turns_count : (n now first limit kept : ℕ) (c : Client) (stage : Stage) (os : List Output) → CountsPending first limit kept stage os
    → TurnsCount first limit kept (turns_within n now (at c stage os))
unfolding turns_within
turns_count zero now first limit kept c stage os h = given_count now first limit kept c stage os h
turns_count (suc n) now first limit kept c stage os h =
    let whole = all_given now os (at c stage os) in
    let g = all_counts now first limit kept c stage os h in
    let x = next_hearing whole.runner.client in
    let heard = runner_after_hearing stage x in
    let b = behind_hearing first limit (kept + length (kept_by whole.steps)) stage x g.stands in
    let later = turns_count n now first limit (kept + length (kept_by whole.steps)) heard.client heard.stage heard.pending (b.rows, b.stands) in
    if_both (TurnsCount first limit kept) (is_over stage) _ _ (λ t. given_count now first limit kept c stage os h)
    (λ t. if_both (TurnsCount first limit kept) (is_not_yet x.heard) _ _ (λ u. record { numbers = g.numbers; counts = b })
    (λ u. joined_count first limit kept whole.steps (turns_within n now heard) g.numbers later))

-- a conversation
record CountsCall (first limit : ℕ) (c : Conversation) : Type 0 where
  numbers : AreCountedFrom first c.kept
  counts : Counts first limit (length c.kept) c.runner

behind_turns : (first limit : ℕ) (c : Conversation) (ts : Turns) → AreCountedFrom first c.kept → TurnsCount first limit (length c.kept) ts
    → CountsCall first limit (conversation_after_turns c ts)
unfolding conversation_after_turns
behind_turns first limit c ts numbers t =
    let both = length-append c.kept (kept_by ts.steps) in
    let all : length c.kept + length (kept_by ts.steps) ≡ length (c.kept ++ kept_by ts.steps) = omega (arith, both) in
    record {
      numbers = counted-append first c.kept (kept_by ts.steps) numbers t.numbers;
      counts = subst (λ n. Counts first limit n ts.runner) all t.counts;
    }

turns_from : (now first limit kept : ℕ) (r : Runner) → Counts first limit kept r → TurnsCount first limit kept (turns now r)
turns_from now first limit kept r c = turns_count (hearings_left r.client) now first limit kept r.client r.stage r.pending (c.rows, c.stands)

ended_count : (first limit : ℕ) (c : Conversation) (a : LinkAnswer) (o : Option LoopEnd) → CountsCall first limit c
    → CountsCall first limit (unless_ended c a o)
ended_count first limit c a (Some end) h = h
ended_count first limit c a None h = record { numbers = h.numbers; counts = h.counts }

going_on : (first limit : ℕ) (c : Conversation) (a : LinkAnswer) → CountsCall first limit c → CountsCall first limit (conversation_going_on c a)
unfolding conversation_going_on
going_on first limit c a h =
    let d = with_answer c a in
    let r : Counts first limit (length c.kept) d.runner = record { rows = h.counts.rows; stands = h.counts.stands } in
    let e = conversation_after_turns d (turns (moment_of a) d.runner) in
    ended_count first limit e a e.end
    (behind_turns first limit d (turns (moment_of a) d.runner) h.numbers (turns_from (moment_of a) first limit (length c.kept) d.runner r))

after_counts : (first limit : ℕ) (c : Conversation) (a : LinkAnswer) → CountsCall first limit c → CountsCall first limit (conversation_after c a)
unfolding conversation_after
after_counts first limit c a h = go c.end
  where
    go : (o : Option LoopEnd) → CountsCall first limit (after_answer_unless o c a)
    go (Some end) = h
    go None = going_on first limit c a h

all_after : (first limit : ℕ) (answers : List LinkAnswer) (c : Conversation) → CountsCall first limit c
    → CountsCall first limit (conversation_after_all c answers)
unfolding conversation_after_all
all_after first limit [] c h = h
all_after first limit (a ∷ as_) c h = all_after first limit as_ (conversation_after c a) (after_counts first limit c a h)

none_yet : (first limit : ℕ) (c : Client) (p : Progress) → rows_in p.outputs ≡ [] → Stands first limit 0 p.stage
    → Counts first limit 0 (record { client = c; stage = p.stage; pending = p.outputs })
none_yet first limit c p none s = let h = keeps_none first limit 0 p none s in record { rows = h.rows; stands = h.stands }

-- before its first request a call has given no row
pub begun_counts : (me peer : AmsAddress) (call : Call) → Counts (first_row call) (row_limit call) 0 (new_runner me peer call)
unfolding begun
begun_counts me peer Info = none_yet 0 0 _ _ refl (omega arith)
begun_counts me peer State = none_yet 0 0 _ _ refl (omega arith)
begun_counts me peer (Control ads device) = none_yet 0 0 _ _ refl (omega arith)
begun_counts me peer (Get name) = none_yet 0 0 _ _ refl (omega arith)
begun_counts me peer (Set name text) = none_yet 0 0 _ _ refl (omega arith)
begun_counts me peer Symbols = none_yet 0 0 _ _ refl (omega arith)
begun_counts me peer (Watch name watching) = none_yet 0 0 _ _ refl (omega arith)
begun_counts me peer (Show name) = none_yet 0 0 _ _ refl (omega arith)
begun_counts me peer (Record names watching first) =
    let g = begins_on names watching first in
    let s = g.stands watching.count (omega arith) (omega arith) in
    record { rows = g.rows; stands = s }

pub keeps_counted : KeepsCounted
unfolding AreCountedFrom
keeps_counted me peer call now answers =
    let first = first_row call in
    let limit = row_limit call in
    let r = new_runner me peer call in
    let begins : CountsCall first limit (conversation_begun me peer call now) =
    behind_turns first limit (record { runner = r; answers = 1; quiet = 0; sent = []; text = []; kept = []; end = None }) (turns now r) tt
    (turns_from now first limit 0 r (begun_counts me peer call)) in
    let all = all_after first limit answers (conversation_begun me peer call now) begins in
    let whole = conversation_after_all (conversation_begun me peer call now) answers in
    let few = few_so first limit (length whole.kept + length (rows_in whole.runner.pending)) whole.runner.stage all.counts.stands in
    record { numbers = all.numbers; few = omega (arith, few) }
