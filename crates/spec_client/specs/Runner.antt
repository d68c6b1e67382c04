-- A call that runs: its client, where it stands, and what it gives, one step a turn.
use Rattle.std.specs.Prelude.{ℕ, zero, suc, List, [], ◌∷◌, ◌++◌, Bool, true, false, if◌then◌else◌}
use Rattle.spec_formats.specs.Header.{AmsAddress}
use Rattle.spec_samples.specs.Row.{Row}
use Rattle.spec_client.specs.Heard.{Heard, NotYet}
use Rattle.spec_client.specs.Client.{Client, new_client, next_id, request_frame, client_after_issue, client_after_feed, client_after_tick}
use Rattle.spec_client.specs.Hearing.{Hearing, next_hearing, hearings_left}
use Rattle.spec_client.specs.Calls.{Call}
use Rattle.spec_client.specs.Stages.{CallEnd, Output, ToSend, ToPrint, ToKeep, Stage, Finished, FinishedRecording, Progress}
use Rattle.spec_client.specs.Steps.{begun, after_heard}

pub record Runner : Type 0 where
  pub client : Client
  pub stage : Stage
  -- what it gives before it hears anything more
  pub pending : List Output

-- a step: bytes to send, text to print, a row to keep, a wait for more bytes, or the call's end
pub data CallStep : Type 0 where
  Send : List ℕ → CallStep
  Print : List ℕ → CallStep
  Keep : Row → CallStep
  Wait : CallStep
  Over : CallEnd → CallStep

abbrev pub with_progress : Client → Progress → Runner
with_progress c p = record { client = c; stage = p.stage; pending = p.outputs }

abbrev pub new_runner : AmsAddress → AmsAddress → Call → Runner
new_runner me peer call = with_progress (new_client me peer) (begun call)

abbrev pub runner_after_feed : Runner → List ℕ → Runner
runner_after_feed r piece = record r { client = client_after_feed r.client piece }

abbrev pub runner_after_tick : Runner → ℕ → Runner
runner_after_tick r now = record r { client = client_after_tick r.client now }

-- what is heard next is taken in
unfoldable pub runner_after_hearing : Stage → Hearing → Runner
runner_after_hearing stage x = with_progress x.client (after_heard stage x.heard)

abbrev pub is_not_yet : Heard → Bool
is_not_yet NotYet = true
is_not_yet h = false

pub record Turned : Type 0 where
  pub step : CallStep
  pub runner : Runner

abbrev pub turned : CallStep → Runner → Turned
turned step r = record { step = step; runner = r }

-- an output is given; a request is issued at this moment
unfoldable pub given : ℕ → Output → Runner → Turned
given now (ToSend request) r =
    turned (Send (request_frame r.client (next_id r.client) request)) (record r { client = client_after_issue r.client request now })
given now (ToPrint text) r = turned (Print text) r
given now (ToKeep row) r = turned (Keep row) r

-- a runner that gives nothing is over, or it waits
abbrev pub resting : Stage → Runner → Turned
resting (Finished end) r = turned (Over end) r
resting (FinishedRecording end entries) r = turned (Over end) r
resting stage r = turned Wait r

abbrev pub is_over : Stage → Bool
is_over (Finished end) = true
is_over (FinishedRecording end entries) = true
is_over stage = false

-- what is given first, or else what follows
abbrev pub turn_giving : ℕ → List Output → Runner → Turned → Turned
turn_giving now [] r rest = rest
turn_giving now (output ∷ outputs) r rest = given now output (record r { pending = outputs })

-- a turn that hears at most so many things
unfoldable pub turn_within : ℕ → ℕ → Runner → Turned
turn_within zero now r = turn_giving now r.pending r (resting r.stage r)
turn_within (suc n) now r =
    let x = next_hearing r.client in
    let heard = runner_after_hearing r.stage x in
    let later = turn_within n now heard in
    let silent = resting r.stage heard in
    let over = resting r.stage r in
    let rest = if is_over r.stage then over else if is_not_yet x.heard then silent else later in
    turn_giving now r.pending r rest

-- a turn at a moment
abbrev pub turn : ℕ → Runner → Turned
turn now r = turn_within (hearings_left r.client) now r

-- the steps up to a wait or the end, and the runner behind them
pub record Turns : Type 0 where
  pub steps : List CallStep
  pub runner : Runner

abbrev pub after_step : Turned → Turns → Turns
after_step t ts = record ts { steps = t.step ∷ ts.steps }

-- all that it gives before it hears anything more
unfoldable pub all_given : ℕ → List Output → Runner → Turns
all_given now [] r = record { steps = []; runner = r }
all_given now (output ∷ outputs) r =
    let t = given now output (record r { pending = outputs }) in after_step t (all_given now outputs t.runner)

abbrev pub joined : List CallStep → Turns → Turns
joined steps ts = record ts { steps = steps ++ ts.steps }

unfoldable pub turns_within : ℕ → ℕ → Runner → Turns
turns_within zero now r = all_given now r.pending r
turns_within (suc n) now r =
    let first = all_given now r.pending r in
    let x = next_hearing first.runner.client in
    let heard = runner_after_hearing r.stage x in
    let silent = record first { runner = heard } in
    let later = joined first.steps (turns_within n now heard) in
    if is_over r.stage then first else if is_not_yet x.heard then silent else later

-- all turns at a moment, up to a wait or the end
abbrev pub turns : ℕ → Runner → Turns
turns now r = turns_within (hearings_left r.client) now r
