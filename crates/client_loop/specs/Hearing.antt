-- What an answer of the link leads to, and what all answers lead to, behind a conversation that goes on.
use Rattle.std.specs.Prelude.{◌≡◌, ◌⊎◌, ◌+◌, ◌==◌, ℕ, List, [], ◌∷◌, ◌++◌, Option, Some, None, Result, Ok, Err, if◌then◌else◌}
use Rattle.ads_base.specs.declared.no_memory.NoMemory.{NoMemory}
use Rattle.ads_base.specs.declared.peer.Peer.TheVariants as peer
use Rattle.ads_outside.specs.declared.link_move.LinkMove.{LinkMove}
use Rattle.ads_outside.specs.declared.link_move.LinkMove.TheVariants as move
use Rattle.ads_outside.specs.LinkState.{LinkState, LinkHistory, broke_off}
use Rattle.ads_outside.specs.Puts.{Appends}
use Rattle.ads_outside.specs.Rose.{Rose}
use Rattle.ads_outside.specs.SinkState.{SinkState}
use Rattle.sample_store.specs.Keeper.{KeeperState}
use Rattle.spec_samples.specs.Row.{Row}
use Rattle.spec_client.specs.Stages.{entries_taken}
use Rattle.spec_client.specs.CallOver.{conversation_after_all}
use Rattle.spec_client.specs.Conversation as conversation
use Rattle.spec_client.specs.Conversation.{LinkAnswer, Conversation, Sent, MAX_QUIET, MAX_ANSWERS, runner_after_answer, conversation_after}
use Rattle.spec_client.specs.Runner.{Runner, CallStep}
use Rattle.spec_client.specs.CallLog.{event_of, sent_last, log_behind, log_up_to}
use Rattle.client_replies.specs.Stages.{end_meant}
use Rattle.client_calls.specs.Kept.{RunnerKept}
use Rattle.client_calls.specs.Represents.{StandsFor}
use Rattle.client_replies.specs.declared.stage.CallEnd.TheVariants as call_end
use Rattle.client_loop.specs.declared.answers.Came.{Came}
use Rattle.client_loop.specs.declared.answers.Came.TheVariants as came
use Rattle.client_loop.specs.declared.hearing.Heard.{Heard}
use Rattle.client_loop.specs.declared.hearing.Heard.TheVariants as heard
use Rattle.client_loop.specs.declared.loop_end.LoopEnd.{LoopEnd}
use Rattle.client_loop.specs.declared.loop_end.LoopEnd.TheVariants as end
use Rattle.client_loop.specs.declared.turning.Turned.{Turned}
use Rattle.client_loop.specs.declared.turning.Turned.TheVariants as turned
use Rattle.client_loop.specs.Called.{AreAwaited}
use Rattle.client_loop.specs.declared.record_end.RecordEnd.{RecordEnd}
use Rattle.client_loop.specs.declared.record_end.RecordEnd.TheVariants as record_end
use Rattle.client_loop.specs.Due.{AtSend, AtPrint, Anywhere, StopsAt, steps_last, text_up_to}
use Rattle.client_loop.specs.LinkAfter.{history_after_answer, history_after_answers, history_left}
use Rattle.client_loop.specs.Outlets.{Outlets, outlets, Adds, AddsPart}
use Rattle.client_loop.specs.Said.{SentSome}
use Rattle.client_loop.specs.Turning.{AfterTurns}

-- which answer came
abbrev pub IsCame : Came → LinkAnswer → Type 0
IsCame (came.Bytes now) a = (bytes : List ℕ) × (a ≡ conversation.Bytes bytes now)
IsCame (came.Quiet now) a = a ≡ conversation.Quiet now
IsCame (came.Closed now) a = a ≡ conversation.Closed now

-- this answer came
pub record Comes {O : Type 0} (a : LinkAnswer) (old_tells new_tells : O → List LinkMove → Type 0) (old new : LinkHistory) : Type 0 where
  pub history : new ≡ history_after_answer old a
  pub told : (o : O) (log : List LinkMove) → old_tells o log → new_tells o (log ++ move.Came (event_of a) ∷ [])

-- nothing came
pub record ComesNot {O : Type 0} (old_tells new_tells : O → List LinkMove → Type 0) (old new : LinkHistory) : Type 0 where
  pub history : new ≡ old
  pub told : (o : O) (log : List LinkMove) → old_tells o log → new_tells o log

-- an answer came, and the runner heard it
pub record TakesIn {O : Type 0} (kind : Came) (k new : RunnerKept) (old_tells new_tells : O → List LinkMove → Type 0)
    (link new_link : LinkHistory) : Type 0 where
  pub answer : LinkAnswer
  pub kind_is : IsCame kind answer
  pub comes : Comes answer old_tells new_tells link new_link
  pub stands : (r : Runner) → StandsFor k r → StandsFor new (runner_after_answer r answer)

-- what a call for an answer leaves
abbrev pub AfterComing : {O : Type 0} → Result (Option Came) NoMemory → RunnerKept → RunnerKept → (O → List LinkMove → Type 0)
    → (O → List LinkMove → Type 0) → LinkState → LinkState → Type 0
AfterComing (Ok (Some kind)) k new old_tells new_tells link new_link =
    TakesIn kind k new old_tells new_tells link.history new_link.history
AfterComing (Ok None) k new old_tells new_tells link new_link =
    Rose link.faults new_link.faults × ComesNot old_tells new_tells (broke_off link.history) new_link.history × (new ≡ k)
AfterComing {O} (Err e) k new old_tells new_tells link new_link =
    ComesNot old_tells new_tells link.history new_link.history
    ⊎ ((a : LinkAnswer) × Comes a old_tells new_tells link.history new_link.history)

-- what stands of a conversation already, and what of it is still to be sent
pub record Before : Type 0 where
  pub text : List ℕ
  pub rows : List Row
  pub pending : List Sent

-- Some answers came to a conversation. Behind what stood of them, all of its text and all of its rows stand, and behind what is still
-- to be sent all that it sent. It ended so; or it goes on, and to receive failed.
pub record IsWhole {O : Type 0} (before : Before) (c : Conversation) (new : RunnerKept)
    (ended : Option conversation.LoopEnd) (old_tells new_tells : O → List LinkMove → Type 0)
    (link new_link : LinkState) (out new_out : Outlets) : Type 0 where
  pub answers : List LinkAnswer
  pub history : new_link.history ≡ history_left ended (history_after_answers link.history answers)
  pub awaited : AreAwaited c answers
  pub end_is : (conversation_after_all c answers).end ≡ ended
  pub entries : entries_taken new.stage ≡ entries_taken (conversation_after_all c answers).runner.stage
  pub text : (base : Option (List ℕ)) → Appends base out.sink.held before.text
      → Appends base new_out.sink.held (conversation_after_all c answers).text
  pub rows : (base : Option (List Row)) → Adds base out.keeper.rows before.rows
      → Adds base new_out.keeper.rows (conversation_after_all c answers).kept
  pub told : (o : O) (log : List LinkMove) → old_tells o log → new_tells o (log ++ log_behind before.pending c answers)

-- It broke off, where these steps were still to be given: it stopped at one of those behind the last answer, and all its text before that
-- stands there. So do some first ones of its rows, and some of what it sends behind the last answer.
pub record IsPart {O : Type 0} (IsStop : List CallStep → Type 0) (before : Before) (steps : List CallStep) (c : Conversation)
    (old_tells new_tells : O → List LinkMove → Type 0) (link new_link : LinkState) (out new_out : Outlets)
    : Type 0 where
  pub answers : List LinkAnswer
  pub history : new_link.history ≡ history_after_answers link.history answers
  pub awaited : AreAwaited c answers
  pub text : (base : Option (List ℕ)) → Appends base out.sink.held before.text
      → StopsAt IsStop (text_up_to before.text c answers) (steps_last steps c answers) base new_out.sink.held
  pub rows : (base : Option (List Row)) → Adds base out.keeper.rows before.rows
      → AddsPart base new_out.keeper.rows (conversation_after_all c answers).kept
  pub told : (o : O) (log : List LinkMove) → old_tells o log
      → SentSome (sent_last before.pending c answers) new_tells o (log ++ log_up_to before.pending c answers)

-- by how it ended
abbrev pub EndsBy : {O : Type 0} → Result RecordEnd NoMemory → Before → List CallStep → Conversation → RunnerKept
    → (O → List LinkMove → Type 0) → (O → List LinkMove → Type 0) → LinkState → LinkState → Outlets → Outlets
    → Type 0
EndsBy (Ok (record_end.Loop (end.Call e))) before steps c new old_tells new_tells link new_link out new_out =
    IsWhole before c new (Some (conversation.CallEnded (end_meant e))) old_tells new_tells link new_link out new_out
EndsBy (Ok (record_end.Loop end.Budget)) before steps c new old_tells new_tells link new_link out new_out =
    IsWhole before c new (Some conversation.Budget) old_tells new_tells link new_link out new_out
EndsBy (Ok (record_end.Loop end.LinkFault)) before steps c new old_tells new_tells link new_link out new_out =
    Rose link.faults new_link.faults
    × (IsWhole before c new None old_tells new_tells link new_link out new_out
    ⊎ IsPart AtSend before steps c old_tells new_tells link new_link out new_out)
EndsBy (Ok (record_end.Loop end.WriteFault)) before steps c new old_tells new_tells link new_link out new_out =
    Rose out.sink.faults new_out.sink.faults × IsPart AtPrint before steps c old_tells new_tells link new_link out new_out
EndsBy (Ok record_end.KeeperFault) before steps c new old_tells new_tells link new_link out new_out =
    Rose out.keeper.faults new_out.keeper.faults × IsPart Anywhere before steps c old_tells new_tells link new_link out new_out
EndsBy (Err e) before steps c new old_tells new_tells link new_link out new_out =
    IsPart Anywhere before steps c old_tells new_tells link new_link out new_out

-- all that a conversation gave stands there
abbrev pub all_of : Conversation → Before
all_of c = record { text = c.text; rows = c.kept; pending = [] }

-- nothing that it gave does
abbrev pub none_of : Conversation → Before
none_of c = record { text = []; rows = []; pending = c.sent }

-- a conversation all of whose text and rows stand there, and all that it sent
abbrev pub EndsOver : {O : Type 0} → Result RecordEnd NoMemory → Conversation → RunnerKept → (O → List LinkMove → Type 0)
    → (O → List LinkMove → Type 0) → LinkState → LinkState → Outlets → Outlets → Type 0
EndsOver result c new old_tells new_tells link new_link out new_out =
    EndsBy result (all_of c) [] c new old_tells new_tells link new_link out new_out

-- one that only begins, with these steps
abbrev pub EndsFrom : {O : Type 0} → Result RecordEnd NoMemory → List CallStep → Conversation → RunnerKept → (O → List LinkMove → Type 0)
    → (O → List LinkMove → Type 0) → LinkState → LinkState → Outlets → Outlets → Type 0
EndsFrom result steps c new old_tells new_tells link new_link out new_out =
    EndsBy result (none_of c) steps c new old_tells new_tells link new_link out new_out

-- a keeper that tells no rows, and never failed
abbrev pub no_rows : KeeperState
no_rows = record { rows = None; names = None; faults = 0 }

-- a call that is no recording, and only begins, with these steps
abbrev pub TalksAlone : {O : Type 0} → Result LoopEnd NoMemory → List CallStep → Conversation → (O → List LinkMove → Type 0)
    → (O → List LinkMove → Type 0) → LinkState → LinkState → SinkState → SinkState → Type 0
TalksAlone (Ok e) steps c old_tells new_tells link new_link out new_out =
    (new : RunnerKept) × EndsFrom (Ok (record_end.Loop e)) steps c new old_tells new_tells link new_link (outlets out no_rows) (outlets new_out no_rows)
TalksAlone (Err e) steps c old_tells new_tells link new_link out new_out =
    IsPart Anywhere (none_of c) steps c old_tells new_tells link new_link (outlets out no_rows) (outlets new_out no_rows)

abbrev pub GoesOver : {O : Type 0} → Conversation → RunnerKept → Option conversation.LoopEnd → (O → List LinkMove → Type 0)
    → (O → List LinkMove → Type 0) → LinkState → LinkState → Outlets → Outlets → Type 0
GoesOver c new ended old_tells new_tells link new_link out new_out =
    IsWhole (all_of c) c new ended old_tells new_tells link new_link out new_out

abbrev pub StopsOver : {O : Type 0} → (List CallStep → Type 0) → Conversation → (O → List LinkMove → Type 0)
    → (O → List LinkMove → Type 0) → LinkState → LinkState → Outlets → Outlets → Type 0
StopsOver IsStop c old_tells new_tells link new_link out new_out =
    IsPart IsStop (all_of c) [] c old_tells new_tells link new_link out new_out

-- the end of a conversation that goes on, unless the last answer came
abbrev pub end_at_last : Conversation → Option conversation.LoopEnd
end_at_last c = if c.answers == MAX_ANSWERS + 1 then Some conversation.Budget else None

-- a conversation goes on, and what is kept stands for its runner
pub record IsAt (k : RunnerKept) (quiet : ℕ) (c : Conversation) : Type 0 where
  pub on : c.end ≡ None
  pub stands : StandsFor k c.runner
  pub quiet_is : c.quiet ≡ quiet

-- an answer came, with all turns behind it, and the conversation goes on unless that was the last answer
pub record Hears {O : Type 0} (c : Conversation) (new : RunnerKept) (quiet : ℕ)
    (old_tells new_tells : O → List LinkMove → Type 0) (link new_link : LinkState) (out new_out : Outlets) : Type 0 where
  pub answer : LinkAnswer
  pub history : new_link.history ≡ history_after_answer link.history answer
  pub stands : StandsFor new (conversation_after c answer).runner
  pub quiet_is : (conversation_after c answer).quiet ≡ quiet
  pub count : (conversation_after c answer).answers ≡ c.answers + 1
  pub end_is : (conversation_after c answer).end ≡ end_at_last (conversation_after c answer)
  pub text : (base : Option (List ℕ)) → Appends base out.sink.held c.text
      → Appends base new_out.sink.held (conversation_after c answer).text
  pub rows : (base : Option (List Row)) → Adds base out.keeper.rows c.kept
      → Adds base new_out.keeper.rows (conversation_after c answer).kept
  pub told : (o : O) (log : List LinkMove) → old_tells o log
      → new_tells o (log ++ log_behind [] c (answer ∷ []))

-- one round: an answer, and the turns behind it
abbrev pub AfterRound : {O : Type 0} → Result Heard NoMemory → Conversation → RunnerKept → (O → List LinkMove → Type 0)
    → (O → List LinkMove → Type 0) → LinkState → LinkState → Outlets → Outlets → Type 0
AfterRound (Ok (heard.Goes quiet)) c new old_tells new_tells link new_link out new_out =
    Hears c new quiet old_tells new_tells link new_link out new_out
AfterRound (Ok (heard.Ends e)) c new old_tells new_tells link new_link out new_out =
    EndsOver (Ok e) c new old_tells new_tells link new_link out new_out
AfterRound (Err e) c new old_tells new_tells link new_link out new_out =
    EndsOver (Err e) c new old_tells new_tells link new_link out new_out

-- so many answers came behind a conversation, and it goes on unless that was the last one
pub record HearsAll {O : Type 0} (c : Conversation) (new : RunnerKept) (quiet count : ℕ)
    (old_tells new_tells : O → List LinkMove → Type 0) (link new_link : LinkState) (out new_out : Outlets) : Type 0 where
  pub answers : List LinkAnswer
  pub history : new_link.history ≡ history_after_answers link.history answers
  pub awaited : AreAwaited c answers
  pub stands : StandsFor new (conversation_after_all c answers).runner
  pub quiet_is : (conversation_after_all c answers).quiet ≡ quiet
  pub count_is : (conversation_after_all c answers).answers ≡ count + 1
  pub end_is : (conversation_after_all c answers).end ≡ end_at_last (conversation_after_all c answers)
  pub text : (base : Option (List ℕ)) → Appends base out.sink.held c.text
      → Appends base new_out.sink.held (conversation_after_all c answers).text
  pub rows : (base : Option (List Row)) → Adds base out.keeper.rows c.kept
      → Adds base new_out.keeper.rows (conversation_after_all c answers).kept
  pub told : (o : O) (log : List LinkMove) → old_tells o log → new_tells o (log ++ log_behind [] c answers)

-- a conversation to which no answer came yet, and which goes on
pub record IsBegun (k : RunnerKept) (c : Conversation) : Type 0 where
  pub on : c.end ≡ None
  pub stands : StandsFor k c.runner
  pub quiet_is : c.quiet ≡ 0
  pub count_is : c.answers ≡ 1

-- where the call goes on
abbrev pub IfGoes : Result Heard NoMemory → (ℕ → Type 0) → Type 0
IfGoes (Ok (heard.Goes quiet)) P = P quiet
IfGoes (Ok (heard.Ends e)) P = Unit {0}
IfGoes (Err e) P = Unit {0}

abbrev pub moment_in : Came → ℕ
moment_in (came.Bytes now) = now
moment_in (came.Quiet now) = now
moment_in (came.Closed now) = now

-- a call that waits behind an answer, of which so many were Quiet in a row before it
abbrev pub waits_behind : Came → ℕ → Heard
waits_behind (came.Bytes now) quiet = heard.Goes 0
waits_behind (came.Quiet now) quiet = if quiet + 1 == MAX_QUIET then heard.Ends (record_end.Loop end.Budget) else heard.Goes (quiet + 1)
waits_behind (came.Closed now) quiet = heard.Ends (record_end.Loop (end.Call (call_end.BadPeer peer.Closed)))

-- the turns behind an answer, of which so many were Quiet in a row before it: what they are by how the turns ended
abbrev pub heard_by : Turned → Came → ℕ → Heard
heard_by turned.Waits kind quiet = waits_behind kind quiet
heard_by (turned.Over e) kind quiet = heard.Ends (record_end.Loop (end.Call e))
heard_by turned.LinkFault kind quiet = heard.Ends (record_end.Loop end.LinkFault)
heard_by turned.WriteFault kind quiet = heard.Ends (record_end.Loop end.WriteFault)
heard_by turned.KeeperFault kind quiet = heard.Ends record_end.KeeperFault

abbrev pub AllTurns : {O : Type 0} → Result Turned NoMemory → ℕ → RunnerKept → RunnerKept → (O → List LinkMove → Type 0)
    → (O → List LinkMove → Type 0) → LinkState → LinkState → Outlets → Outlets → Type 0
AllTurns result now k new old_tells new_tells link new_link out new_out =
    (r : Runner) (n : ℕ) → StandsFor k r → AfterTurns result now new old_tells new_tells link new_link out new_out n r

-- how all turns behind an answer ended
pub record EndsTurns {O : Type 0} (told : Heard) (kind : Came) (quiet : ℕ) (k new : RunnerKept)
    (old_tells new_tells : O → List LinkMove → Type 0) (link new_link : LinkState) (out new_out : Outlets) : Type 0 where
  pub ended : Turned
  pub told_is : told ≡ heard_by ended kind quiet
  pub turns : AllTurns (Ok ended) (moment_in kind) k new old_tells new_tells link new_link out new_out

abbrev pub TurnsBehind : {O : Type 0} → Result Heard NoMemory → Came → ℕ → RunnerKept → RunnerKept
    → (O → List LinkMove → Type 0) → (O → List LinkMove → Type 0) → LinkState → LinkState → Outlets → Outlets
    → Type 0
TurnsBehind (Ok told) kind quiet k new old_tells new_tells link new_link out new_out =
    EndsTurns told kind quiet k new old_tells new_tells link new_link out new_out
TurnsBehind (Err e) kind quiet k new old_tells new_tells link new_link out new_out =
    AllTurns (Err e) (moment_in kind) k new old_tells new_tells link new_link out new_out
