-- All turns of a runner are one turn, and all turns behind it.
use Rattle.std.proofs.Common.{◌≡◌, ◌⊎◌, ℕ, zero, suc, ◌<◌, ◌≤◌, List, [], ◌∷◌, length, Bool, true, false, refl, sym, ap, ◌∙◌, inl, inr, arith}
use Rattle.std.specs.Prelude.{filter, if◌then◌else◌}
use Rattle.std.proofs.lemmas.List.{length-append}
use Rattle.std.proofs.lemmas.List.Elements.{filter-append}
use Rattle.spec_formats.specs.Request.{Request}
use Rattle.spec_client.specs.Heard.{Heard, Answered, Sampled, Ended, Stray, TimedOut, NotYet, Broken}
use Rattle.spec_client.specs.Client.{Client, is_full, next_id, with_request, client_after_issue}
use Rattle.spec_client.specs.Hearing.{Hearing, next_hearing, hearings_left}
use Rattle.spec_client.specs.Stages.{Output, ToSend, ToPrint, ToKeep, CallEnd, BadPeer, Stage, Records, Finished, FinishedRecording, ended_at}
use Rattle.spec_client.specs.Steps.{after_heard}
use Rattle.spec_client.specs.Runner.{Runner, Wait, Turned, turned, Turns, runner_after_hearing, is_not_yet}
use Rattle.spec_client.specs.Runner.{given, resting, is_over, turn_within, after_step, all_given, joined}
use Rattle.spec_client.specs.Runner.{turns_within, turns}
use Rattle.spec_client.specs.Unanswered.{Unanswered, is_timed_out}
use Rattle.spec_client.specs.Laws.{goes_on, turns_behind, TurnsUnfold}
use Rattle.spec_client.proofs.Hearings.{hearings_fall}

either_left : (c : Client) (id : ℕ) (r : Request) (now : ℕ) (b : Bool)
    → hearings_left (if b then c else with_request c id r now) ≡ hearings_left c
either_left c id r now true = refl
either_left c id r now false =
    let same : length (filter is_timed_out (with_request c id r now).unanswered) ≡ length (filter is_timed_out c.unanswered)
    = rw filter-append (omega (arith, length-append {A = Unanswered})) in
    omega arith

-- an output leaves what is to be heard, and where the call stands
given_left : (now : ℕ) (o : Output) (r : Runner) → hearings_left (given now o r).runner.client ≡ hearings_left r.client
unfolding given client_after_issue
given_left now (ToSend request) r = either_left r.client (next_id r.client) request now (is_full r.client)
given_left now (ToPrint text) r = refl
given_left now (ToKeep row) r = refl

given_stage : (now : ℕ) (o : Output) (r : Runner) → (given now o r).runner.stage ≡ r.stage
unfolding given
given_stage now (ToSend request) r = refl
given_stage now (ToPrint text) r = refl
given_stage now (ToKeep row) r = refl

given_pending : (now : ℕ) (o : Output) (r : Runner) → (given now o r).runner.pending ≡ r.pending
unfolding given
given_pending now (ToSend request) r = refl
given_pending now (ToPrint text) r = refl
given_pending now (ToKeep row) r = refl

all_left : (now : ℕ) (os : List Output) (r : Runner) → hearings_left (all_given now os r).runner.client ≡ hearings_left r.client
unfolding all_given
all_left now [] r = refl
all_left now (o ∷ os) r =
    all_left now os (given now o (record r { pending = os })).runner ∙ given_left now o (record r { pending = os })

-- a runner behind something that was heard
abbrev behind : ℕ → Runner → Runner
behind now r = runner_after_hearing r.stage (next_hearing (all_given now r.pending r).runner.client)

-- the runner of a call that is over stays as it is
finished : (n now : ℕ) (r : Runner) → is_over r.stage ≡ true → turns_within n now r ≡ all_given now r.pending r
unfolding turns_within
finished zero now r e = refl
finished (suc n) now r e = rw e refl

ended_is_over : (stage : Stage) (end : CallEnd) → (is_over (ended_at stage end).stage ≡ true) × ((ended_at stage end).outputs ≡ [])
ended_is_over (Records wait r) end = (refl, refl)
ended_is_over stage end = (refl, refl)

broken_is_over : (stage : Stage) (h : Heard) → goes_on h ≡ false → is_not_yet h ≡ false
    → (is_over (after_heard stage h).stage ≡ true) × ((after_heard stage h).outputs ≡ [])
unfolding after_heard
broken_is_over stage (Broken p) ends waits = ended_is_over stage (BadPeer p)
broken_is_over stage NotYet ends waits = absurd (let e : true ≡ false = waits in cc)
broken_is_over stage (Answered id error command payload) ends waits = absurd (let e : true ≡ false = ends in cc)
broken_is_over stage (Sampled handle time bytes) ends waits = absurd (let e : true ≡ false = ends in cc)
broken_is_over stage (Ended handle) ends waits = absurd (let e : true ≡ false = ends in cc)
broken_is_over stage (Stray id) ends waits = absurd (let e : true ≡ false = ends in cc)
broken_is_over stage (TimedOut id sent now) ends waits = absurd (let e : true ≡ false = ends in cc)

pub over_if_broken : (stage : Stage) (x : Hearing) → goes_on x.heard ≡ false → is_not_yet x.heard ≡ false
    → (is_over (runner_after_hearing stage x).stage ≡ true) × ((runner_after_hearing stage x).pending ≡ [])
unfolding runner_after_hearing
over_if_broken stage x ends waits = broken_is_over stage x.heard ends waits

pub cases_of : (b : Bool) → (b ≡ true) ⊎ (b ≡ false)
cases_of true = inl refl
cases_of false = inr refl

-- where more may be heard, less is left
behind_left : (now : ℕ) (r : Runner) → goes_on (next_hearing (all_given now r.pending r).runner.client).heard ≡ true
    → hearings_left (behind now r).client < hearings_left r.client
unfolding runner_after_hearing
behind_left now r e =
    let falls = hearings_fall (all_given now r.pending r).runner.client e in
    let same = all_left now r.pending r in
    omega arith

chosen : (over waits : Bool) (first silent a b : Turns) → (waits ≡ false → a ≡ b)
    → (if over then first else if waits then silent else a) ≡ (if over then first else if waits then silent else b)
chosen true waits first silent a b same = refl
chosen false true first silent a b same = refl
chosen false false first silent a b same = same refl

abbrev heard_by : ℕ → Runner → Hearing
heard_by now r = next_hearing (all_given now r.pending r).runner.client

-- turns behind something that was heard, where more turns make no difference behind what goes on
same_behind : (n m now : ℕ) (r : Runner)
    → ((q : Runner) → hearings_left q.client ≤ n → hearings_left q.client ≤ m → turns_within n now q ≡ turns_within m now q)
    → hearings_left r.client ≤ suc n → hearings_left r.client ≤ suc m → is_not_yet (heard_by now r).heard ≡ false
    → turns_within n now (behind now r) ≡ turns_within m now (behind now r)
same_behind n m now r again few many waits = elim (cases_of (goes_on (heard_by now r).heard)) [
  | inl e ↦ let less = behind_left now r e in again (behind now r) (omega arith) (omega arith)
  | inr e ↦
      let over = over_if_broken r.stage (heard_by now r) e waits in
      finished n now (behind now r) over.0 ∙ sym (finished m now (behind now r) over.0)
]

-- more turns than there is to hear make no difference
enough : (n m now : ℕ) (r : Runner) → hearings_left r.client ≤ n → hearings_left r.client ≤ m → turns_within n now r ≡ turns_within m now r
unfolding turns_within
enough zero m now r few many = absurd (omega arith)
enough (suc n) zero now r few many = absurd (omega arith)
enough (suc n) (suc m) now r few many =
    let first = all_given now r.pending r in
    chosen (is_over r.stage) (is_not_yet (heard_by now r).heard) first (record first { runner = behind now r })
    (joined first.steps (turns_within n now (behind now r))) (joined first.steps (turns_within m now (behind now r)))
    (λ waits. ap (joined first.steps) (same_behind n m now r (λ q. enough n m now q) few many waits))

abbrev pub at : Client → Stage → List Output → Runner
at c stage outputs = record { client = c; stage = stage; pending = outputs }

-- a step that is given first stands before all others
pulled : (over waits : Bool) (t : Turned) (p l : Turns) (q : Runner)
    → (if over then after_step t p else if waits then record (after_step t p) { runner = q } else joined (after_step t p).steps l)
    ≡ after_step t (if over then p else if waits then record p { runner = q } else joined p.steps l)
pulled true waits t p l q = refl
pulled false true t p l q = refl
pulled false false t p l q = refl

abbrev giving : ℕ → Client → Stage → List Output → Output → Turned
giving now c stage os o = given now o (at c stage os)

given_first : (n now : ℕ) (c : Client) (stage : Stage) (o : Output) (os : List Output)
    → turns_within (suc n) now (at c stage (o ∷ os)) ≡ after_step (giving now c stage os o) (turns_within (suc n) now (giving now c stage os o).runner)
unfolding turns_within all_given given
given_first n now c stage (ToSend request) os =
    let t = giving now c stage os (ToSend request) in
    pulled (is_over stage) (is_not_yet (heard_by now t.runner).heard) t
    (all_given now os t.runner) (turns_within n now (behind now t.runner)) (behind now t.runner)
given_first n now c stage (ToKeep row) os =
    let t = giving now c stage os (ToKeep row) in
    pulled (is_over stage) (is_not_yet (heard_by now t.runner).heard) t
    (all_given now os t.runner) (turns_within n now (behind now t.runner)) (behind now t.runner)
given_first n now c stage (ToPrint text) os =
    let t = giving now c stage os (ToPrint text) in
    pulled (is_over stage) (is_not_yet (heard_by now t.runner).heard) t
    (all_given now os t.runner) (turns_within n now (behind now t.runner)) (behind now t.runner)

steps_behind : (now : ℕ) (o : Output) (r : Runner)
    → turns_behind now (given now o r).step (given now o r).runner ≡ after_step (given now o r) (turns now (given now o r).runner)
unfolding given
steps_behind now (ToSend request) r = refl
steps_behind now (ToPrint text) r = refl
steps_behind now (ToKeep row) r = refl

pub waiting : (stage : Stage) (r : Runner) → is_over stage ≡ false → resting stage r ≡ turned Wait r
waiting (Finished end) r e = absurd (let h : true ≡ false = e in cc)
waiting (FinishedRecording end entries) r e = absurd (let h : true ≡ false = e in cc)
waiting stage r e = refl

over_rests : (now : ℕ) (stage : Stage) (r : Runner) → is_over stage ≡ true
    → turns_behind now (resting stage r).step (resting stage r).runner ≡ record { steps = []; runner = r }
over_rests now (Finished end) r e = refl
over_rests now (FinishedRecording end entries) r e = refl
over_rests now stage r e = absurd (let h : false ≡ true = e in cc)

abbrev Unfolds : ℕ → ℕ → Runner → Type 0
Unfolds n now r = turns_within n now r ≡ turns_behind now (turn_within n now r).step (turn_within n now r).runner

-- a runner of a call that is over, with nothing more to give
over_unfolds : (n now : ℕ) (c : Client) (stage : Stage) → is_over stage ≡ true → Unfolds n now (at c stage [])
unfolding turns_within turn_within all_given
over_unfolds zero now c stage e = sym (over_rests now stage (at c stage []) e)
over_unfolds (suc n) now c stage e = rw e (sym (over_rests now stage (at c stage []) e))

over_without : (n now : ℕ) (c : Client) (stage : Stage) (os : List Output) → is_over stage ≡ true → os ≡ [] → Unfolds n now (at c stage os)
over_without n now c stage os e none = rw none (over_unfolds n now c stage e)

-- one that waits
wait_unfolds : (n now : ℕ) (c : Client) (stage : Stage) → is_over stage ≡ false → is_not_yet (next_hearing c).heard ≡ true
    → Unfolds (suc n) now (at c stage [])
unfolding turns_within turn_within all_given
wait_unfolds n now c stage e waits = rw (e, waits, waiting stage (runner_after_hearing stage (next_hearing c)) e) refl

-- one that hears something behind which it has nothing to give
later_unfolds : (n now : ℕ) (c : Client) (stage : Stage) → is_over stage ≡ false → is_not_yet (next_hearing c).heard ≡ false
    → Unfolds n now (runner_after_hearing stage (next_hearing c)) → Unfolds (suc n) now (at c stage [])
unfolding turns_within turn_within all_given
later_unfolds n now c stage e waits later = rw (e, waits) later

-- with something to give
giving_unfolds : (n now : ℕ) (c : Client) (stage : Stage) (o : Output) (os : List Output) → hearings_left c ≤ suc n
    → Unfolds (suc n) now (at c stage (o ∷ os))
unfolding turn_within
giving_unfolds n now c stage o os few =
    let t = giving now c stage os o in
    let same = given_left now o (at c stage os) in
    given_first n now c stage o os
    ∙ ap (after_step t) (enough (suc n) (hearings_left t.runner.client) now t.runner (omega arith) (omega arith))
    ∙ sym (steps_behind now o (at c stage os))

-- behind something that was heard, where all runners with less to hear unfold
heard_unfolds : (n now : ℕ) (c : Client) (stage : Stage) → ((d : Client) (s : Stage) (os : List Output) → hearings_left d ≤ n → Unfolds n now (at d s os))
    → hearings_left c ≤ suc n → is_not_yet (next_hearing c).heard ≡ false → Unfolds n now (runner_after_hearing stage (next_hearing c))
unfolding runner_after_hearing
heard_unfolds n now c stage again few waits =
    let x = next_hearing c in
    let p = after_heard stage x.heard in
    elim (cases_of (goes_on x.heard)) [
      | inl e ↦ let falls = hearings_fall c e in again x.client p.stage p.outputs (omega arith)
      | inr e ↦ let over = over_if_broken stage x e waits in over_without n now x.client p.stage p.outputs over.0 over.1
    ]

unfolds : (n now : ℕ) (c : Client) (stage : Stage) (os : List Output) → hearings_left c ≤ n → Unfolds n now (at c stage os)
unfolds zero now c stage os few = absurd (omega arith)
unfolds (suc n) now c stage (o ∷ os) few = giving_unfolds n now c stage o os few
unfolds (suc n) now c stage [] few = elim (cases_of (is_over stage)) [
  | inl e ↦ over_unfolds (suc n) now c stage e
  | inr e ↦ elim (cases_of (is_not_yet (next_hearing c).heard)) [
    | inl waits ↦ wait_unfolds n now c stage e waits
    | inr waits ↦ later_unfolds n now c stage e waits (heard_unfolds n now c stage (unfolds n now) few waits)
  ]
]

pub turns_unfold : TurnsUnfold
turns_unfold now r = unfolds (hearings_left r.client) now r.client r.stage r.pending (omega arith)
