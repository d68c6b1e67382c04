-- Laws of calls, over every runner and every machine.
use Rattle.std.specs.Prelude.{◌≡◌, ℕ, ◌<◌, [], Bool, true, false, List, ◌∷◌, if◌then◌else◌}
use Rattle.spec_client.specs.Heard.{Heard, NotYet, Broken}
use Rattle.spec_client.specs.Client.{Client}
use Rattle.spec_client.specs.Hearing.{Hearing, next_hearing, hearings_left}
use Rattle.spec_client.specs.Stages.{Output, Stage, Finished, FinishedRecording}
use Rattle.spec_client.specs.Runner.{Runner, CallStep, Wait, Over, Turned, turned, given, is_not_yet, runner_after_hearing, turn, Turns, turns, after_step}

-- something was heard behind which more may be heard
abbrev pub goes_on : Heard → Bool
goes_on NotYet = false
goes_on (Broken peer) = false
goes_on h = true

-- Each thing that is heard leaves fewer to be heard.
abbrev pub HearingsFall : Type 0
HearingsFall = (c : Client) → goes_on (next_hearing c).heard ≡ true → hearings_left (next_hearing c).client < hearings_left c

-- a turn that hears this
abbrev pub turn_hearing : ℕ → Runner → Hearing → Turned
turn_hearing now r x =
    if is_not_yet x.heard then turned Wait (runner_after_hearing r.stage x)
    else turn now (runner_after_hearing r.stage x)

-- a turn with nothing to give
abbrev pub turn_of_stage : ℕ → Runner → Stage → Turned
turn_of_stage now r (Finished end) = turned (Over end) r
turn_of_stage now r (FinishedRecording end entries) = turned (Over end) r
turn_of_stage now r stage = turn_hearing now r (next_hearing r.client)

abbrev pub turn_by_cases : ℕ → Runner → List Output → Turned
turn_by_cases now r [] = turn_of_stage now r r.stage
turn_by_cases now r (output ∷ outputs) = given now output (record r { pending = outputs })

-- A turn gives what is to be given first; else the call is over; else something is heard: all bytes are
-- heard and it waits, or it is a turn behind what was heard.
abbrev pub TurnByCases : Type 0
TurnByCases = (now : ℕ) (r : Runner) → turn now r ≡ turn_by_cases now r r.pending

-- one turn, and those behind it
abbrev pub turns_behind : ℕ → CallStep → Runner → Turns
turns_behind now Wait r = record { steps = []; runner = r }
turns_behind now (Over end) r = record { steps = []; runner = r }
turns_behind now step r = after_step (record { step = step; runner = r }) (turns now r)

-- All turns are one turn, and all turns behind it.
abbrev pub TurnsUnfold : Type 0
TurnsUnfold = (now : ℕ) (r : Runner) → turns now r ≡ turns_behind now (turn now r).step (turn now r).runner
