-- A turn, case by case.
use Rattle.std.proofs.Common.{◌≡◌, ℕ, zero, suc, ◌≤◌, List, [], ◌∷◌, Bool, true, false, refl, sym, ◌∙◌, inl, inr, arith}
use Rattle.std.specs.Prelude.{if◌then◌else◌}
use Rattle.spec_client.specs.Client.{Client}
use Rattle.spec_client.specs.Hearing.{next_hearing, hearings_left}
use Rattle.spec_client.specs.Stages.{Output, Stage, Finished, FinishedRecording}
use Rattle.spec_client.specs.Steps.{after_heard}
use Rattle.spec_client.specs.Runner.{Runner, Turned, runner_after_hearing, is_not_yet, resting, is_over, given, turn_within, turn}
use Rattle.spec_client.specs.Laws.{goes_on, turn_hearing, turn_of_stage, turn_by_cases, TurnByCases}
use Rattle.spec_client.proofs.Hearings.{hearings_fall}
use Rattle.spec_client.proofs.TurnsUnfolded.{at, cases_of, over_if_broken, waiting}

turn_chosen : (over waits : Bool) (o s a b : Turned) → (waits ≡ false → a ≡ b)
    → (if over then o else if waits then s else a) ≡ (if over then o else if waits then s else b)
turn_chosen true waits o s a b same = refl
turn_chosen false true o s a b same = refl
turn_chosen false false o s a b same = same refl

-- the turn of a call that is over, with nothing to give
over_turn : (n now : ℕ) (c : Client) (stage : Stage) → is_over stage ≡ true → turn_within n now (at c stage []) ≡ resting stage (at c stage [])
unfolding turn_within
over_turn zero now c stage e = refl
over_turn (suc n) now c stage e = rw e refl

over_without : (n now : ℕ) (c : Client) (stage : Stage) (os : List Output) → is_over stage ≡ true → os ≡ []
    → turn_within n now (at c stage os) ≡ resting stage (at c stage os)
over_without n now c stage os e none = rw none (over_turn n now c stage e)

abbrev Same : ℕ → ℕ → ℕ → Runner → Type 0
Same n m now r = turn_within n now r ≡ turn_within m now r

-- behind something that was heard more turns make no difference, where they make none with less to hear
same_behind : (n m now : ℕ) (c : Client) (stage : Stage)
    → ((d : Client) (s : Stage) (os : List Output) → hearings_left d ≤ n → hearings_left d ≤ m → Same n m now (at d s os))
    → hearings_left c ≤ suc n → hearings_left c ≤ suc m → is_not_yet (next_hearing c).heard ≡ false
    → Same n m now (runner_after_hearing stage (next_hearing c))
unfolding runner_after_hearing
same_behind n m now c stage again few many waits =
    let x = next_hearing c in
    let p = after_heard stage x.heard in
    elim (cases_of (goes_on x.heard)) [
      | inl e ↦ let falls = hearings_fall c e in again x.client p.stage p.outputs (omega arith) (omega arith)
      | inr e ↦
          let over = over_if_broken stage x e waits in
          over_without n now x.client p.stage p.outputs over.0 over.1 ∙ sym (over_without m now x.client p.stage p.outputs over.0 over.1)
    ]

enough : (n m now : ℕ) (c : Client) (stage : Stage) (os : List Output) → hearings_left c ≤ n → hearings_left c ≤ m → Same n m now (at c stage os)
unfolding turn_within
enough zero m now c stage os few many = absurd (omega arith)
enough (suc n) zero now c stage os few many = absurd (omega arith)
enough (suc n) (suc m) now c stage (o ∷ os) few many = refl
enough (suc n) (suc m) now c stage [] few many =
    turn_chosen (is_over stage) (is_not_yet (next_hearing c).heard) _ _ _ _ (same_behind n m now c stage (λ d. enough n m now d) few many)

over_by_stage : (now : ℕ) (r : Runner) (stage : Stage) → is_over stage ≡ true → resting stage r ≡ turn_of_stage now r stage
over_by_stage now r (Finished end) e = refl
over_by_stage now r (FinishedRecording end entries) e = refl
over_by_stage now r stage e = absurd (let h : false ≡ true = e in cc)

hears_by_stage : (now : ℕ) (r : Runner) (stage : Stage) → is_over stage ≡ false → turn_of_stage now r stage ≡ turn_hearing now r (next_hearing r.client)
hears_by_stage now r (Finished end) e = absurd (let h : true ≡ false = e in cc)
hears_by_stage now r (FinishedRecording end entries) e = absurd (let h : true ≡ false = e in cc)
hears_by_stage now r stage e = refl

-- behind something that was heard there are turns enough
turn_behind : (n now : ℕ) (c : Client) (stage : Stage) → hearings_left c ≤ n → is_not_yet (next_hearing c).heard ≡ false
    → turn_within n now (runner_after_hearing stage (next_hearing c)) ≡ turn now (runner_after_hearing stage (next_hearing c))
unfolding runner_after_hearing
turn_behind n now c stage few waits =
    let x = next_hearing c in
    let p = after_heard stage x.heard in
    let m = hearings_left x.client in
    elim (cases_of (goes_on x.heard)) [
      | inl e ↦ let falls = hearings_fall c e in enough n m now x.client p.stage p.outputs (omega arith) (omega arith)
      | inr e ↦
          let over = over_if_broken stage x e waits in
          over_without n now x.client p.stage p.outputs over.0 over.1 ∙ sym (over_without m now x.client p.stage p.outputs over.0 over.1)
    ]

-- the turn of a call with nothing to give
silent : (n now : ℕ) (c : Client) (stage : Stage) → hearings_left c ≤ n → turn_within (suc n) now (at c stage []) ≡ turn_of_stage now (at c stage []) stage
unfolding turn_within
silent n now c stage few = elim (cases_of (is_over stage)) [
  | inl e ↦ rw e (over_by_stage now (at c stage []) stage e)
  | inr e ↦ elim (cases_of (is_not_yet (next_hearing c).heard)) [
    | inl waits ↦ rw (hears_by_stage now (at c stage []) stage e, waits, e) (waiting stage (runner_after_hearing stage (next_hearing c)) e)
    | inr waits ↦ rw (hears_by_stage now (at c stage []) stage e, waits, e) (turn_behind n now c stage few waits)
  ]
]

given_first : (n now : ℕ) (c : Client) (stage : Stage) (o : Output) (os : List Output)
    → turn_within n now (at c stage (o ∷ os)) ≡ given now o (at c stage os)
unfolding turn_within
given_first zero now c stage o os = refl
given_first (suc n) now c stage o os = refl

by_cases : (now : ℕ) (c : Client) (stage : Stage) (os : List Output) → turn now (at c stage os) ≡ turn_by_cases now (at c stage os) os
by_cases now c stage (o ∷ os) = given_first (hearings_left c) now c stage o os
by_cases now c stage [] =
    enough (hearings_left c) (suc (hearings_left c)) now c stage [] (omega arith) (omega arith)
    ∙ silent (hearings_left c) now c stage (omega arith)

pub turn_cases : TurnByCases
turn_cases now r = by_cases now r.client r.stage r.pending
