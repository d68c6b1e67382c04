-- A call over a link: its turns after each answer of the link, and how it ends.
use Rattle.std.specs.Prelude.{ℕ, ◌+◌, List, [], ◌∷◌, ◌++◌, ◌==◌, ◌||◌, if◌then◌else◌, Option, Some, None}
use Rattle.ads_base.specs.declared.peer.Peer.TheVariants as peer
use Rattle.spec_formats.specs.Header.{AmsAddress}
use Rattle.spec_samples.specs.Row.{Row}
use Rattle.spec_client.specs.Calls.{Call}
use Rattle.spec_client.specs.Stages.{CallEnd, BadPeer, Stage, Finished, FinishedRecording}
use Rattle.spec_client.specs.Runner.{Runner, new_runner, runner_after_feed, runner_after_tick, CallStep, Send, Print, Keep, Turns, turns}

-- an answer of a link, with its moment
pub data LinkAnswer : Type 0 where
  Bytes : (bytes : List ℕ) → (now : ℕ) → LinkAnswer
  Quiet : (now : ℕ) → LinkAnswer
  Closed : (now : ℕ) → LinkAnswer

-- bytes that were sent, and how many answers of the link stood before them, that of `connect` among them
pub record Sent : Type 0 where
  pub answers : ℕ
  pub bytes : List ℕ

pub data LoopEnd : Type 0 where
  CallEnded : CallEnd → LoopEnd
  Budget : LoopEnd

pub record Conversation : Type 0 where
  pub runner : Runner
  -- the answers so far, that of `connect` among them, and those of Quiet since any other one
  pub answers : ℕ
  pub quiet : ℕ
  pub sent : List Sent
  pub text : List ℕ
  -- the rows that were given to be kept
  pub kept : List Row
  pub end : Option LoopEnd

-- This project's own choice: a call ends after so many answers of Quiet in a row, or so many answers in all.
abbrev pub MAX_QUIET : ℕ
MAX_QUIET = 1000000

abbrev pub MAX_ANSWERS : ℕ
MAX_ANSWERS = 10000000000000

abbrev pub moment_of : LinkAnswer → ℕ
moment_of (Bytes bytes now) = now
moment_of (Quiet now) = now
moment_of (Closed now) = now

abbrev pub bytes_of : LinkAnswer → List ℕ
bytes_of (Bytes bytes now) = bytes
bytes_of (Quiet now) = []
bytes_of (Closed now) = []

abbrev pub quiet_after : ℕ → LinkAnswer → ℕ
quiet_after quiet (Bytes bytes now) = 0
quiet_after quiet (Quiet now) = quiet + 1
quiet_after quiet (Closed now) = 0

-- the bytes that these steps send, when so many answers stand before them
abbrev pub sent_by : ℕ → List CallStep → List Sent
sent_by answers [] = []
sent_by answers (Send bytes ∷ steps) = record { answers = answers; bytes = bytes } ∷ sent_by answers steps
sent_by answers (step ∷ steps) = sent_by answers steps

abbrev pub printed_by : List CallStep → List ℕ
printed_by [] = []
printed_by (Print text ∷ steps) = text ++ printed_by steps
printed_by (step ∷ steps) = printed_by steps

abbrev pub kept_by : List CallStep → List Row
kept_by [] = []
kept_by (Keep row ∷ steps) = row ∷ kept_by steps
kept_by (step ∷ steps) = kept_by steps

abbrev pub end_of_stage : Stage → Option LoopEnd
end_of_stage (Finished end) = Some (CallEnded end)
end_of_stage (FinishedRecording end entries) = Some (CallEnded end)
end_of_stage stage = None

unfoldable pub conversation_after_turns : Conversation → Turns → Conversation
conversation_after_turns c ts = record c {
  runner = ts.runner;
  sent = c.sent ++ sent_by c.answers ts.steps;
  text = c.text ++ printed_by ts.steps;
  kept = c.kept ++ kept_by ts.steps;
  end = end_of_stage ts.runner.stage;
}

-- the link is connected at a moment, and the first request is sent
abbrev pub conversation_begun : AmsAddress → AmsAddress → Call → ℕ → Conversation
conversation_begun me peer call now = conversation_after_turns (record {
  runner = new_runner me peer call;
  answers = 1;
  quiet = 0;
  sent = [];
  text = [];
  kept = [];
  end = None;
}) (turns now (new_runner me peer call))

-- an answer that ends a call which goes on: Closed, or the last Quiet or the last answer that is waited for
abbrev pub end_by_count : Conversation → Option LoopEnd
end_by_count c = if (c.quiet == MAX_QUIET) || (c.answers == MAX_ANSWERS + 1) then Some Budget else None

abbrev pub end_by_answer : Conversation → LinkAnswer → Option LoopEnd
end_by_answer c (Closed now) = Some (CallEnded (BadPeer peer.Closed))
end_by_answer c answer = end_by_count c

abbrev pub unless_ended : Conversation → LinkAnswer → Option LoopEnd → Conversation
unless_ended c answer (Some end) = c
unless_ended c answer None = record c { end = end_by_answer c answer }

-- the runner hears the moment and the bytes of an answer
abbrev pub runner_after_answer : Runner → LinkAnswer → Runner
runner_after_answer r answer = runner_after_feed (runner_after_tick r (moment_of answer)) (bytes_of answer)

abbrev pub with_answer : Conversation → LinkAnswer → Conversation
with_answer c answer = record c {
  runner = runner_after_answer c.runner answer;
  answers = c.answers + 1;
  quiet = quiet_after c.quiet answer;
}

-- what is heard comes before an end by the answer itself
abbrev pub ended_by : LinkAnswer → Conversation → Conversation
ended_by answer c = unless_ended c answer c.end

unfoldable pub conversation_going_on : Conversation → LinkAnswer → Conversation
conversation_going_on c answer =
    ended_by answer (conversation_after_turns (with_answer c answer) (turns (moment_of answer) (with_answer c answer).runner))

abbrev pub after_answer_unless : Option LoopEnd → Conversation → LinkAnswer → Conversation
after_answer_unless (Some end) c answer = c
after_answer_unless None c answer = conversation_going_on c answer

-- a call that is over takes no answer more
unfoldable pub conversation_after : Conversation → LinkAnswer → Conversation
conversation_after c answer = after_answer_unless c.end c answer
