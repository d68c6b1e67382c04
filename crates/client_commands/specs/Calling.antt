-- What a client's call leaves in the link and in the sink, and with which status it ends.
use Rattle.std.specs.Prelude.{◌≡◌, ◌⊎◌, Some, Result, Ok, Err}
use Rattle.ads_base.specs.declared.no_memory.NoMemory.{NoMemory}
use Rattle.ads_outside.specs.Puts.{Appends, AppendsPart}
use Rattle.ads_outside.specs.Rose.{Rose}
use Rattle.ads_outside.specs.SinkState.{SinkState, NeverFalls}
use Rattle.spec_client.specs.Conversation.{LoopEnd, CallEnded, Budget, Conversation}
use Rattle.spec_client.specs.Stages.{CallEnd, Done, Refused, BadPeer, BadValue, TimedOut}
use Rattle.spec_local.specs.LocalCall.{Cutting, local_call}
use Rattle.spec_local_room.specs.Laws.{is_setting, IsAnswered}
use Rattle.spec_server.specs.Server.{server, server_start}
use Rattle.client_loop.specs.Called.{Calling, AfterCall}
use Rattle.client_loop.specs.declared.loop_end.LoopEnd as loop
use Rattle.client_loop.specs.declared.loop_end.LoopEnd.TheVariants as end
use Rattle.client_replies.specs.Stages.{end_meant}
use Rattle.run_tasks.specs.declared.status.Status.{Status}
use Rattle.run_tasks.specs.declared.status.Status.TheVariants as status
use Rattle.run_tasks.specs.Asking.{LocalCalling, peer_of_local}
use Rattle.run_tasks.specs.Ending.{line_alone}
use Rattle.run_tasks.specs.Prints.{PutsMemoryLine, PrintsEnding}
use Rattle.client_commands.specs.CallUses.{LinkUse}

-- the status of a call that ended so
abbrev pub status_of_call : CallEnd → Status
status_of_call Done = status.Done
status_of_call (Refused code) = status.Refused code
status_of_call (BadPeer broke) = status.BadPeer broke
status_of_call BadValue = status.BadValue
status_of_call (TimedOut sent now) = status.TimedOut sent now

abbrev pub status_of_loop : LoopEnd → Status
status_of_loop (CallEnded e) = status_of_call e
status_of_loop Budget = status.Budget

-- what is printed behind a call's text, by how the call ended: the last line of the status
abbrev pub PrintsAnswer : Result loop.LoopEnd NoMemory → Status → SinkState → SinkState → Type 0
PrintsAnswer (Ok (end.Call e)) s old new = PrintsEnding (line_alone (status_of_call (end_meant e))) s old new
PrintsAnswer (Ok end.Budget) s old new = PrintsEnding (line_alone status.Budget) s old new
PrintsAnswer (Ok end.LinkFault) s old new = PrintsEnding (line_alone status.LinkFault) s old new
PrintsAnswer (Ok end.WriteFault) s old new = (s ≡ status.WriteFault) × (new ≡ old)
PrintsAnswer (Err e) s old new = (s ≡ status.Memory) × PutsMemoryLine old new

-- a call over the link, and its last line
pub record EndsCall {O : Type 0} (x : Calling) (s : Status) (out out_new : SinkState) (link : LinkUse O) : Type 0 where
  pub answer : Result loop.LoopEnd NoMemory
  pub between : SinkState
  pub called : AfterCall answer x link.told link.tells link.old link.new out between
  pub later : NeverFalls out between
  pub prints : PrintsAnswer answer s between out_new

-- the call over the server in the same process, whose answers are cut so
abbrev pub local_conversation : LocalCalling → Cutting → Conversation
local_conversation x cutting =
    local_call server cutting (server_start x.description x.waves) x.me (peer_of_local x) x.call

-- However its answers are cut, the call ends so, and its text was put. It ends by no timeout, and for a text that is no value only
-- where it sets one.
pub record LocalTalks (x : LocalCalling) (ended : LoopEnd) (out out_new : SinkState) : Type 0 where
  pub end_is : (cutting : Cutting) → (local_conversation x cutting).end ≡ Some ended
  pub answered : IsAnswered (is_setting x.call) ended
  pub text : (cutting : Cutting) → Appends out.held out_new.held (local_conversation x cutting).text

-- however its answers are cut, some first bytes of its text were put
abbrev pub LocalBreaksOff : LocalCalling → SinkState → SinkState → Type 0
LocalBreaksOff x out out_new = (cutting : Cutting) → AppendsPart out.held out_new.held (local_conversation x cutting).text

-- what a local call leaves in the sink, by how it ended; no link fails
abbrev pub AfterLocal : Result loop.LoopEnd NoMemory → LocalCalling → SinkState → SinkState → Type 0
AfterLocal (Ok (end.Call e)) x out out_new = LocalTalks x (CallEnded (end_meant e)) out out_new
AfterLocal (Ok end.Budget) x out out_new = LocalTalks x Budget out out_new
AfterLocal (Ok end.LinkFault) x out out_new = ⊥
AfterLocal (Ok end.WriteFault) x out out_new = Rose out.faults out_new.faults × LocalBreaksOff x out out_new
AfterLocal (Err e) x out out_new = (out_new ≡ out) ⊎ LocalBreaksOff x out out_new

-- a local call, and its last line
pub record EndsLocalCall (x : LocalCalling) (s : Status) (out out_new : SinkState) : Type 0 where
  pub answer : Result loop.LoopEnd NoMemory
  pub between : SinkState
  pub called : AfterLocal answer x out between
  pub later : NeverFalls out between
  pub prints : PrintsAnswer answer s between out_new
