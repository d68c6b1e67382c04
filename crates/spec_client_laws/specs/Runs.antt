-- A call as it goes: what comes to it, and the turns that it is given. A request is sent only once no other waits for its answer,
-- and a sample is printed only behind the answer that gave its handle.
use Rattle.std.specs.Prelude.{◌≡◌, ◌≢◌, ℕ, zero, suc, ◌≤◌, length, List, [], ◌∷◌, ◌++◌, Bool, true, false, ◌||◌, ◌==◌, if◌then◌else◌, Option, Some, None}
use Rattle.std.specs.List.{list_any}
use Rattle.spec_formats.specs.Header.{AmsAddress}
use Rattle.spec_formats.specs.Reply.{Reply, reply_of}
use Rattle.spec_formats.specs.Request.{Request, command_of}
use Rattle.spec_client.specs.Heard.{Heard, Answered, Sampled}
use Rattle.spec_client.specs.Client.{Client, request_frame}
use Rattle.spec_client.specs.Hearing.{next_hearing, hearings_left}
use Rattle.spec_client.specs.Calls.{Call}
use Rattle.spec_client.specs.CallOver.{call_over}
use Rattle.spec_client.specs.Conversation.{LinkAnswer}
use Rattle.spec_client.specs.Stages.{Output, Stage}
use Rattle.spec_client.specs.Replies.{handle_given}
use Rattle.spec_client.specs.Steps.{after_heard}
use Rattle.spec_client.specs.Runner.{Runner, new_runner, runner_after_feed, runner_after_tick, Send, runner_after_hearing, is_not_yet, is_over, turn}

-- bytes come, a tick of the clock comes, or it is asked for its next step, at a moment
pub data RunMove : Type 0 where
  Fed : List ℕ → RunMove
  Ticked : ℕ → RunMove
  Turned : ℕ → RunMove

unfoldable pub runner_after_move : Runner → RunMove → Runner
runner_after_move r (Fed piece) = runner_after_feed r piece
runner_after_move r (Ticked now) = runner_after_tick r now
runner_after_move r (Turned now) = (turn now r).runner

unfoldable pub runner_after : Runner → List RunMove → Runner
runner_after r [] = r
runner_after r (move ∷ moves) = runner_after (runner_after_move r move) moves

-- these bytes are a request that was sent at this moment, and no other request of the client waits for its answer
pub record IsSentAlone (now : ℕ) (bytes : List ℕ) (c : Client) : Type 0 where
  pub id : ℕ
  pub request : Request
  pub frame : bytes ≡ request_frame c id request
  pub alone : c.unanswered ≡ record { id = id; command = command_of request; sent = now; timed_out = None } ∷ []

-- So a request is sent only after the answer of the one before, in every call and whatever comes to it.
abbrev pub SendsOneByOne : Type 0
SendsOneByOne = (me peer : AmsAddress) (call : Call) (moves : List RunMove) (now : ℕ) (bytes : List ℕ)
    → (turn now (runner_after (new_runner me peer call) moves)).step ≡ Send bytes
    → IsSentAlone now bytes (turn now (runner_after (new_runner me peer call) moves)).runner.client

-- And a call over a link has at most one request without an answer, at any time.
abbrev pub OneWaitsOverLinks : Type 0
OneWaitsOverLinks = (me peer : AmsAddress) (call : Call) (now : ℕ) (answers : List LinkAnswer)
    → length (call_over me peer call now answers).runner.client.unanswered ≤ 1

-- what is heard, and where the call then stands
pub record HeardAt : Type 0 where
  pub stage : Stage
  pub heard : Heard

abbrev pub has_some : List Output → Bool
has_some [] = false
has_some (output ∷ outputs) = true

-- what a turn hears, of so many things at most
unfoldable pub heard_within : ℕ → Runner → List HeardAt
heard_within zero r = []
heard_within (suc n) r =
    let x = next_hearing r.client in
    let later = if is_not_yet x.heard then [] else heard_within n (runner_after_hearing r.stage x) in
    if has_some r.pending || is_over r.stage then [] else record { stage = r.stage; heard = x.heard } ∷ later

abbrev pub heard_at_move : Runner → RunMove → List HeardAt
heard_at_move r (Turned now) = heard_within (hearings_left r.client) r
heard_at_move r move = []

-- all that a call hears, in its order
unfoldable pub heard_in : Runner → List RunMove → List HeardAt
heard_in r [] = []
heard_in r (move ∷ moves) = heard_at_move r move ++ heard_in (runner_after_move r move) moves

-- the handle that an answer gives
abbrev pub handle_of_reply : Option Reply → List ℕ
handle_of_reply None = []
handle_of_reply (Some reply) = handle_given reply ∷ []

abbrev pub handles_of : Heard → List ℕ
handles_of (Answered id error command payload) = handle_of_reply (reply_of command payload)
handles_of heard = []

abbrev pub is_known : ℕ → List ℕ → Bool
is_known handle known = list_any (λ k. k == handle) known

-- a sample at which something is done is of a handle that is known
abbrev pub TakesKnown : List ℕ → HeardAt → Type 0
TakesKnown known x = (handle time : ℕ) (bytes : List ℕ) → x.heard ≡ Sampled handle time bytes
    → (after_heard x.stage x.heard).outputs ≢ [] → is_known handle known ≡ true

-- where these handles were given before: each is known once an answer gave it
abbrev pub TakesGivenAfter : List ℕ → List HeardAt → Type 0
TakesGivenAfter known [] = Unit {0}
TakesGivenAfter known (x ∷ xs) = TakesKnown known x × TakesGivenAfter (handles_of x.heard ++ known) xs

-- So no call prints a sample before the answer that gave its handle.
abbrev pub PrintsGivenSamples : Type 0
PrintsGivenSamples = (me peer : AmsAddress) (call : Call) (moves : List RunMove)
    → TakesGivenAfter [] (heard_in (new_runner me peer call) moves)
