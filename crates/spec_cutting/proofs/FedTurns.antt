-- All turns of a runner where more bytes came: those without them, and then those behind them.
use Rattle.std.proofs.Common.{◌≡◌, ℕ, zero, suc, ◌≤◌, List, [], ◌∷◌, length, Bool, true, false, refl, sym, ap, ◌∙◌, subst, inl, inr, arith}
use Rattle.std.specs.Prelude.{filter, if◌then◌else◌}
use Rattle.std.proofs.lemmas.Bool.{cond-true, cond-false}
use Rattle.std.proofs.lemmas.List.{length-append}
use Rattle.std.proofs.lemmas.List.Elements.{filter-append}
use Rattle.spec_formats.specs.Request.{Request}
use Rattle.spec_client.specs.Heard.{Heard, Answered, Sampled, Ended, Stray, TimedOut, NotYet, Broken}
use Rattle.spec_client.specs.Client.{Client, is_full, next_id, with_request, client_after_issue, client_after_feed}
use Rattle.spec_client.specs.Hearing.{Hearing, next_hearing, hearings_left}
use Rattle.spec_client.specs.Stages.{Output, ToSend, ToPrint, ToKeep, Stage, Finished, FinishedRecording, stay}
use Rattle.spec_client.specs.Steps.{after_heard}
use Rattle.spec_client.specs.Runner.{Runner, Wait, Turned, turned, Turns, runner_after_hearing}
use Rattle.spec_client.specs.Runner.{runner_after_feed, is_not_yet, given, is_over, turn, after_step, joined}
use Rattle.spec_client.specs.Runner.{turns}
use Rattle.spec_client.specs.Unanswered.{Unanswered, is_timed_out}
use Rattle.spec_client.specs.Laws.{goes_on, turn_hearing, turn_of_stage, turns_behind}
use Rattle.spec_client.proofs.Hearings.{hearings_fall}
use Rattle.spec_client.proofs.TurnsUnfolded.{at, cases_of, over_if_broken, turns_unfold}
use Rattle.spec_client.proofs.TurnCases.{turn_cases}
use Rattle.spec_cutting.proofs.Fed.{heard_as_fed, still_client}

-- nothing is given, and the runner stays
abbrev pub still : Client → Stage → Turns
still c stage = record { steps = []; runner = at c stage [] }

-- turns begin with their first one
unfolded : (now : ℕ) (r : Runner) (t : Turned) → turn now r ≡ t → turns now r ≡ turns_behind now t.step t.runner
unfolded now r t is = turns_unfold now r ∙ ap (λ (u : Turned). turns_behind now u.step u.runner) is

steps_behind : (now : ℕ) (o : Output) (r : Runner)
    → turns_behind now (given now o r).step (given now o r).runner ≡ after_step (given now o r) (turns now (given now o r).runner)
unfolding given
steps_behind now (ToSend request) r = refl
steps_behind now (ToPrint text) r = refl
steps_behind now (ToKeep row) r = refl

pub turns_given : (now : ℕ) (c : Client) (stage : Stage) (o : Output) (os : List Output)
    → turns now (at c stage (o ∷ os)) ≡ after_step (given now o (at c stage os)) (turns now (given now o (at c stage os)).runner)
turns_given now c stage o os =
    unfolded now (at c stage (o ∷ os)) (given now o (at c stage os)) (turn_cases now (at c stage (o ∷ os))) ∙ steps_behind now o (at c stage os)

over_behind : (now : ℕ) (c : Client) (stage kept : Stage) → is_over stage ≡ true
    → turns_behind now (turn_of_stage now (at c kept []) stage).step (turn_of_stage now (at c kept []) stage).runner ≡ still c kept
over_behind now c (Finished end) kept over = refl
over_behind now c (FinishedRecording end entries) kept over = refl
over_behind now c stage kept over = absurd (let e : false ≡ true = over in cc)

pub turns_over : (now : ℕ) (c : Client) (stage : Stage) → is_over stage ≡ true → turns now (at c stage []) ≡ still c stage
turns_over now c stage over =
    unfolded now (at c stage []) (turn_of_stage now (at c stage []) stage) (turn_cases now (at c stage [])) ∙ over_behind now c stage stage over

hears : (now : ℕ) (r : Runner) (stage : Stage) → is_over stage ≡ false → turn_of_stage now r stage ≡ turn_hearing now r (next_hearing r.client)
hears now r (Finished end) on = absurd (let e : true ≡ false = on in cc)
hears now r (FinishedRecording end entries) on = absurd (let e : true ≡ false = on in cc)
hears now r stage on = refl

stays : (stage : Stage) (h : Heard) → is_not_yet h ≡ true → after_heard stage h ≡ stay stage
unfolding after_heard
stays stage NotYet waits = refl
stays stage (Answered id error command payload) waits = absurd (let e : false ≡ true = waits in cc)
stays stage (Sampled handle time bytes) waits = absurd (let e : false ≡ true = waits in cc)
stays stage (Ended handle) waits = absurd (let e : false ≡ true = waits in cc)
stays stage (Stray id) waits = absurd (let e : false ≡ true = waits in cc)
stays stage (TimedOut id sent now) waits = absurd (let e : false ≡ true = waits in cc)
stays stage (Broken peer) waits = absurd (let e : false ≡ true = waits in cc)

still_runner : (c : Client) (stage : Stage) → is_not_yet (next_hearing c).heard ≡ true → runner_after_hearing stage (next_hearing c) ≡ at c stage []
unfolding runner_after_hearing
still_runner c stage waits = rw (still_client c waits, stays stage (next_hearing c).heard waits) refl

pub turns_wait : (now : ℕ) (c : Client) (stage : Stage) → is_over stage ≡ false
    → is_not_yet (next_hearing c).heard ≡ true → turns now (at c stage []) ≡ still c stage
turns_wait now c stage on waits =
    let x = next_hearing c in
    unfolded now (at c stage []) (turned Wait (runner_after_hearing stage x))
    (turn_cases now (at c stage []) ∙ hears now (at c stage []) stage on ∙ cond-true (is_not_yet x.heard) _ _ waits)
    ∙ ap (λ (r : Runner). record { steps = []; runner = r }) (still_runner c stage waits)

pub turns_hear : (now : ℕ) (c : Client) (stage : Stage) → is_over stage ≡ false → is_not_yet (next_hearing c).heard ≡ false
    → turns now (at c stage []) ≡ turns now (runner_after_hearing stage (next_hearing c))
turns_hear now c stage on some =
    let x = next_hearing c in
    unfolded now (at c stage []) (turn now (runner_after_hearing stage x))
    (turn_cases now (at c stage []) ∙ hears now (at c stage []) stage on ∙ cond-false (is_not_yet x.heard) _ _ some)
    ∙ sym (turns_unfold now (runner_after_hearing stage x))

either_left : (c : Client) (id : ℕ) (r : Request) (now : ℕ) (b : Bool)
    → hearings_left (if b then c else with_request c id r now) ≡ hearings_left c
either_left c id r now true = refl
either_left c id r now false =
    let same : length (filter is_timed_out (with_request c id r now).unanswered) ≡ length (filter is_timed_out c.unanswered)
    = rw filter-append (omega (arith, length-append {A = Unanswered})) in
    omega arith

issue_left : (c : Client) (r : Request) (now : ℕ) → hearings_left (client_after_issue c r now) ≡ hearings_left c
unfolding client_after_issue
issue_left c r now = either_left c (next_id c) r now (is_full c)

-- what holds of all turns of each runner, by the cases of a turn
pub record IsByTurns (now : ℕ) (P : Runner → Turns → Type 0) : Type 0 where
  pub over : (c : Client) (stage : Stage) → is_over stage ≡ true → P (at c stage []) (still c stage)
  pub waits : (c : Client) (stage : Stage) → is_over stage ≡ false → is_not_yet (next_hearing c).heard ≡ true → P (at c stage []) (still c stage)
  pub gives : (c : Client) (stage : Stage) (o : Output) (os : List Output) (ts : Turns)
      → P (given now o (at c stage os)).runner ts → P (at c stage (o ∷ os)) (after_step (given now o (at c stage os)) ts)
  pub hears : (c : Client) (stage : Stage) (ts : Turns) → is_over stage ≡ false → is_not_yet (next_hearing c).heard ≡ false
      → P (runner_after_hearing stage (next_hearing c)) ts → P (at c stage []) ts

none_over : (now : ℕ) (P : Runner → Turns → Type 0) → IsByTurns now P → (c : Client) (stage : Stage) (os : List Output) → is_over stage ≡ true → os ≡ []
    → P (at c stage os) (turns now (at c stage os))
none_over now P by c stage os over none = rw none (rw (turns_over now c stage over) (by.over c stage over))

abbrev HoldsWithin : ℕ → ℕ → (Runner → Turns → Type 0) → Type 0
HoldsWithin now n P = (d : Client) (s : Stage) (os : List Output) → hearings_left d ≤ n → P (at d s os) (turns now (at d s os))

behind_heard : (now n : ℕ) (P : Runner → Turns → Type 0) → IsByTurns now P → (c : Client) (stage : Stage) → HoldsWithin now n P
    → hearings_left c ≤ suc n → is_not_yet (next_hearing c).heard ≡ false
    → P (runner_after_hearing stage (next_hearing c)) (turns now (runner_after_hearing stage (next_hearing c)))
unfolding runner_after_hearing
behind_heard now n P by c stage again few some =
    let x = next_hearing c in
    let p = after_heard stage x.heard in
    elim (cases_of (goes_on x.heard)) [
      | inl e ↦ let falls = hearings_fall c e in again x.client p.stage p.outputs (omega arith)
      | inr e ↦
          let over = over_if_broken stage x e some in
          none_over now P by x.client p.stage p.outputs over.0 over.1
    ]

with_none : (now n : ℕ) (P : Runner → Turns → Type 0) → IsByTurns now P → (c : Client) (stage : Stage) → HoldsWithin now n P
    → hearings_left c ≤ suc n → P (at c stage []) (turns now (at c stage []))
with_none now n P by c stage again few = elim (cases_of (is_over stage)) [
  | inl over ↦ none_over now P by c stage [] over refl
  | inr on ↦ elim (cases_of (is_not_yet (next_hearing c).heard)) [
    | inl waits ↦ subst (P (at c stage [])) (sym (turns_wait now c stage on waits)) (by.waits c stage on waits)
    | inr some ↦
        subst (P (at c stage [])) (sym (turns_hear now c stage on some))
        (by.hears c stage _ on some (behind_heard now n P by c stage again few some))
  ]
]

holds : (now : ℕ) (P : Runner → Turns → Type 0) → IsByTurns now P → (n : ℕ) (c : Client) (stage : Stage) (os : List Output) → hearings_left c ≤ n
    → P (at c stage os) (turns now (at c stage os))
unfolding given
holds now P by zero c stage os few = absurd (omega arith)
holds now P by (suc n) c stage [] few = with_none now n P by c stage (holds now P by n) few
holds now P by (suc n) c stage (ToSend request ∷ os) few =
    let same = issue_left c request now in
    subst (P (at c stage (ToSend request ∷ os))) (sym (turns_given now c stage (ToSend request) os))
    (by.gives c stage (ToSend request) os _ (holds now P by (suc n) (client_after_issue c request now) stage os (omega arith)))
holds now P by (suc n) c stage (ToPrint text ∷ os) few =
    subst (P (at c stage (ToPrint text ∷ os))) (sym (turns_given now c stage (ToPrint text) os))
    (by.gives c stage (ToPrint text) os _ (holds now P by (suc n) c stage os few))
holds now P by (suc n) c stage (ToKeep row ∷ os) few =
    subst (P (at c stage (ToKeep row ∷ os))) (sym (turns_given now c stage (ToKeep row) os))
    (by.gives c stage (ToKeep row) os _ (holds now P by (suc n) c stage os few))

pub by_turns : (now : ℕ) (P : Runner → Turns → Type 0) → IsByTurns now P → (r : Runner) → P r (turns now r)
by_turns now P by r = holds now P by (hearings_left r.client) r.client r.stage r.pending (omega arith)

-- nothing is left to be given
pub none_pending : (now : ℕ) (r : Runner) → (turns now r).runner.pending ≡ []
none_pending now r = by_turns now (λ r ts. ts.runner.pending ≡ []) (record {
  over = λ c stage over. refl;
  waits = λ c stage on waits. refl;
  gives = λ c stage o os ts none. none;
  hears = λ c stage ts on some none. none;
}) r

fed_issue : (c : Client) (request : Request) (id now : ℕ) (more : List ℕ) (b : Bool)
    → (if b then client_after_feed c more else with_request (client_after_feed c more) id request now)
    ≡ client_after_feed (if b then c else with_request c id request now) more
fed_issue c request id now more true = refl
fed_issue c request id now more false = refl

fed_given : (now : ℕ) (c : Client) (stage : Stage) (o : Output) (os : List Output) (more : List ℕ)
    → given now o (at (client_after_feed c more) stage os) ≡ turned
    (given now o (at c stage os)).step (runner_after_feed (given now o (at c stage os)).runner more)
unfolding given client_after_issue
fed_given now c stage (ToSend request) os more =
    ap (λ (d : Client). turned (given now (ToSend request) (at c stage os)).step (at d stage os)) (fed_issue c request (next_id c) now more (is_full c))
fed_given now c stage (ToPrint text) os more = refl
fed_given now c stage (ToKeep row) os more = refl

abbrev GoOn : ℕ → List ℕ → Runner → Turns → Type 0
GoOn now more r ts = turns now (runner_after_feed r more) ≡ joined ts.steps (turns now (runner_after_feed ts.runner more))

go_given : (now : ℕ) (more : List ℕ) (c : Client) (stage : Stage) (o : Output) (os : List Output) (ts : Turns)
    → GoOn now more (given now o (at c stage os)).runner ts → GoOn now more (at c stage (o ∷ os)) (after_step (given now o (at c stage os)) ts)
go_given now more c stage o os ts on =
    let t = given now o (at c stage os) in
    turns_given now (client_after_feed c more) stage o os
    ∙ ap (λ (u : Turned). after_step u (turns now u.runner)) (fed_given now c stage o os more)
    ∙ ap (after_step t) on

go_heard : (now : ℕ) (more : List ℕ) (c : Client) (stage : Stage) (ts : Turns) → is_over stage ≡ false → is_not_yet (next_hearing c).heard ≡ false
    → GoOn now more (runner_after_hearing stage (next_hearing c)) ts → GoOn now more (at c stage []) ts
unfolding runner_after_hearing
go_heard now more c stage ts on some later =
    let same = heard_as_fed c more some in
    let still_some : is_not_yet (next_hearing (client_after_feed c more)).heard ≡ false = ap (λ (x : Hearing). is_not_yet x.heard) same ∙ some in
    turns_hear now (client_after_feed c more) stage on still_some
    ∙ ap (λ (x : Hearing). turns now (runner_after_hearing stage x)) same
    ∙ later

-- where more bytes come, the turns without them come first
pub turns_fed : (now : ℕ) (more : List ℕ) (r : Runner)
    → turns now (runner_after_feed r more) ≡ joined (turns now r).steps (turns now (runner_after_feed (turns now r).runner more))
turns_fed now more r = by_turns now (GoOn now more) (record {
  over = λ c stage over. refl;
  waits = λ c stage on waits. refl;
  gives = go_given now more;
  hears = go_heard now more;
}) r
