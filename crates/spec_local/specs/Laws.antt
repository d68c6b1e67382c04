-- The laws of local calls, over every machine.
use Rattle.std.specs.Prelude.{◌≡◌, ℕ, List, ◌++◌, length, true, is_some, None}
use Rattle.ads_outside.specs.declared.link_move.LinkMove.{LinkMove}
use Rattle.spec_formats.specs.Header.{AmsAddress}
use Rattle.spec_machine.specs.Connection.{connection_of}
use Rattle.spec_machine.specs.MachineState.{MachineState}
use Rattle.spec_machine.specs.Moves.{EventStep}
use Rattle.spec_client.specs.Calls.{Call}
use Rattle.spec_client.specs.Conversation.{LinkAnswer}
use Rattle.spec_client.specs.CallOver.{call_over}
use Rattle.spec_client.specs.CallLog.{call_log, call_log_up_to}
use Rattle.spec_local.specs.LocalCall.{Cutting, local_call, local_call_within, local_answers}
use Rattle.spec_local.specs.LinkLog.{IsLogOf, cutting_of}

-- A call over a machine is the call over the answers that the machine gives.
abbrev pub LocalIsOver : (W C : Type 0) → Type 0
LocalIsOver W C = (step : EventStep W C) (cutting : Cutting) (s : MachineState W C) (me peer : AmsAddress) (call : Call)
    → local_call step cutting s me peer call ≡ call_over me peer call s.moment (local_answers step cutting s me peer call)

-- a call over these answers is the local one, cut as the answers were
pub record IsLocalCall {W C : Type 0} (step : EventStep W C) (s : MachineState W C)
    (me peer : AmsAddress) (call : Call) (now : ℕ) (answers : List LinkAnswer) : Type 0 where
  -- it began at the machine's moment
  pub moment : now ≡ s.moment
  -- so far as the answers came
  pub so_far : local_call_within step (cutting_of answers) (length answers) s me peer call ≡ call_over me peer call now answers
  -- the whole of it, where it is over
  pub over : is_some (call_over me peer call now answers).end ≡ true
      → local_call step (cutting_of answers) s me peer call ≡ call_over me peer call now answers

-- A call whose log, up to its last answer, is one of a machine without connection 1 is the local call over this machine.
abbrev pub CallsAreLocal : (W C : Type 0) → Type 0
CallsAreLocal W C = (step : EventStep W C) (s : MachineState W C) (me peer : AmsAddress) (call : Call) (to : List ℕ) (now : ℕ) (answers : List LinkAnswer)
    → connection_of 1 s.connections ≡ None → IsLogOf step s (call_log_up_to me peer call to now answers) → IsLocalCall step s me peer call now answers

-- The first part of a log of a machine is one.
abbrev pub FirstPartsAreLogs : (W C : Type 0) → Type 0
FirstPartsAreLogs W C = (step : EventStep W C) (s : MachineState W C) (log more : List LinkMove) → IsLogOf step s (log ++ more) → IsLogOf step s log

-- Where the log of a call is one of a machine, so is that up to its last answer.
abbrev pub CallLogsBegin : (W C : Type 0) → Type 0
CallLogsBegin W C = (step : EventStep W C) (s : MachineState W C) (me peer : AmsAddress) (call : Call) (to : List ℕ) (now : ℕ) (answers : List LinkAnswer)
    → IsLogOf step s (call_log me peer call to now answers) → IsLogOf step s (call_log_up_to me peer call to now answers)
