-- What the parts of a turn do, over every runner that is stood for. No public clause cites this file.
use Rattle.std.specs.Prelude.{◌≡◌, ℕ, ◌<◌, ◌≤◌, ◌^◌, [], length, Option, Some, None}
use Rattle.spec_client.specs.Heard.{Heard}
use Rattle.spec_client.specs.Stages.{entries_taken}
use Rattle.spec_client.specs.Steps.{after_heard}
use Rattle.spec_client.specs.Runner.{Runner, turn}
use Rattle.client_calls.specs.Kept.{RunnerKept, hearings_kept, turns_left}
use Rattle.client_calls.specs.Represents.{StandsFor, IsGoingOn}
use Rattle.client_calls.specs.Steps.{step_meant, UnlessOver, IfGives, IsKeepable}
use Rattle.client_calls.specs.declared.call_step.CallStep.{CallStep}

-- the step is that of the runner's turn, and what is kept stands for the runner behind it
pub record IsTurned (now : ℕ) (new : RunnerKept) (step : CallStep) (r : Runner) : Type 0 where
  pub step_is : step_meant step ≡ (turn now r).step
  pub stands : UnlessOver step (StandsFor new (turn now r).runner)
  pub entries : entries_taken new.stage ≡ entries_taken (turn now r).runner.stage
  pub keepable : IsKeepable step

abbrev pub Turns : ℕ → RunnerKept → RunnerKept → CallStep → Type 0
Turns now old new step = (r : Runner) → StandsFor old r → IsTurned now new step r

-- the turn goes on as that of another runner, which is stood for
pub record Passes (now : ℕ) (new : RunnerKept) (r : Runner) : Type 0 where
  pub behind : Runner
  pub stands : StandsFor new behind
  pub same : turn now r ≡ turn now behind

abbrev pub PassesAll : ℕ → RunnerKept → RunnerKept → Type 0
PassesAll now old new = (r : Runner) → StandsFor old r → Passes now new r

-- what was taken out is given
pub record Gives (old new : RunnerKept) : Type 0 where
  pub hearings : hearings_kept new.client ≡ hearings_kept old.client
  pub pending : new.pending ≡ old.pending

-- something was heard behind which the turn goes on
pub record GoesOn (old new : RunnerKept) : Type 0 where
  pub passes : (now : ℕ) → PassesAll now old new
  pub fewer : hearings_kept new.client < hearings_kept old.client
  pub short : length new.pending < 2 ^ 64

-- it waits, or the call is over
abbrev pub IsRest : CallStep → Type 0
IsRest step = IfGives step ⊥

pub record Rests (old new : RunnerKept) (step : CallStep) : Type 0 where
  pub rests : IsRest step
  pub left : turns_left new ≤ turns_left old
  pub turned : (now : ℕ) → Turns now old new step

abbrev pub Hears : RunnerKept → RunnerKept → Option CallStep → Type 0
Hears old new None = GoesOn old new
Hears old new (Some step) = Rests old new step

-- a step of the turn
pub record Steps (now : ℕ) (old new : RunnerKept) (step : CallStep) : Type 0 where
  pub turned : Turns now old new step
  pub falls : IfGives step (turns_left new < turns_left old)
  pub left : turns_left new ≤ turns_left old

abbrev pub Does : ℕ → RunnerKept → RunnerKept → Option CallStep → Type 0
Does now old new None = GoesOn old new
Does now old new (Some step) = Steps now old new step

-- what was heard is taken in
pub record TakesIn (old : RunnerKept) (heard : Heard) (new : RunnerKept) : Type 0 where
  pub client : new.client ≡ old.client
  pub stage : new.stage ≡ (after_heard old.stage heard).stage
  pub pending : new.pending ≡ (after_heard old.stage heard).outputs
  pub short : length new.pending < 2 ^ 64

-- the turn is on its way: it goes on as that of what is kept now
pub record OnItsWay (now : ℕ) (old new : RunnerKept) : Type 0 where
  pub passes : PassesAll now old new
  pub going : IsGoingOn new
  pub left : turns_left new ≤ turns_left old
