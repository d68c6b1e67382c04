-- Calls do not depend on where a link's answers are cut.
use Rattle.std.specs.Prelude.{◌≡◌, ◌≤◌, ℕ, List, [], true, false, is_some, None}
use Rattle.spec_formats.specs.Header.{AmsAddress}
use Rattle.spec_machine.specs.Connection.{connection_of}
use Rattle.spec_machine.specs.Device.{Device}
use Rattle.spec_machine.specs.Events.{state_after_event}
use Rattle.spec_machine.specs.MachineState.{MachineState}
use Rattle.spec_machine.specs.Moves.{EventStep}
use Rattle.spec_machine.specs.Offers.{is_closing_at}
use Rattle.spec_client.specs.Calls.{Call}
use Rattle.spec_client.specs.Conversation.{LinkAnswer, MAX_ANSWERS}
use Rattle.spec_client.specs.CallOver.{call_over}
use Rattle.spec_local.specs.LocalCall.{Cutting, LocalScene, waiting_bytes, answer_in, scene_behind, scene_begun, scene_after_answers, local_call}
use Rattle.spec_client.specs.CallLog.{call_log_up_to}
use Rattle.spec_local.specs.LinkLog.{IsLogOf}
use Rattle.spec_cutting.specs.Joining.{uncut, IsSameCall}

-- Calls over the same answers, cut otherwise, are the same, where neither used up its answers.
abbrev pub AnswersMayBeCut : Type 0
AnswersMayBeCut = (me peer : AmsAddress) (call : Call) (now : ℕ) (answers others : List LinkAnswer)
    → uncut answers ≡ uncut others
    → (call_over me peer call now answers).answers ≤ MAX_ANSWERS → (call_over me peer call now others).answers ≤ MAX_ANSWERS
    → IsSameCall (call_over me peer call now answers) (call_over me peer call now others)

-- each answer is one byte
abbrev pub byte_by_byte : Cutting
byte_by_byte n = 0

-- nothing waits where what the call sends behind the next byte closes the connection
abbrev pub ClosesAlone : {W C : Type 0} → EventStep W C → LocalScene W C → Type 0
ClosesAlone step x =
    is_closing_at 1 (answer_in step byte_by_byte x).machine ≡ false → is_closing_at 1 (scene_behind step byte_by_byte x).machine ≡ true
    → waiting_bytes (answer_in step byte_by_byte x).machine ≡ []

-- the scene of a call whose answers come byte by byte, behind so many of them
abbrev pub scene_by_bytes : {W C : Type 0} → EventStep W C → ℕ → MachineState W C → AmsAddress → AmsAddress → Call → LocalScene W C
scene_by_bytes step n s me peer call = scene_after_answers step byte_by_byte n (scene_begun step s me peer call)

-- Byte by byte a call has room: it does not use up its answers, and none of its requests closes the connection while
-- something waits, as one does whose reply finds the queue full.
pub record HasRoom {W C : Type 0} (step : EventStep W C) (s : MachineState W C) (me peer : AmsAddress) (call : Call) : Type 0 where
  pub answers_left : (local_call step byte_by_byte s me peer call).answers ≤ MAX_ANSWERS
  pub closes_alone : (n : ℕ) → ClosesAlone step (scene_by_bytes step n s me peer call)

-- Over the server's machine, with every device: a local call that has room is the same, however its answers are cut.
abbrev pub CuttingsAreOne : (W C : Type 0) → Type 0
CuttingsAreOne W C = (device : Device W C) (cutting other : Cutting) (s : MachineState W C) (me peer : AmsAddress) (call : Call)
    → HasRoom (state_after_event device) s me peer call
    → IsSameCall (local_call (state_after_event device) cutting s me peer call) (local_call (state_after_event device) other s me peer call)

-- A call over a link whose log is one of that machine is the local call, cut in any way, where the call is over.
abbrev pub LinksAreOne : (W C : Type 0) → Type 0
LinksAreOne W C = (device : Device W C) (cutting : Cutting) (s : MachineState W C)
    (me peer : AmsAddress) (call : Call) (to : List ℕ) (now : ℕ) (answers : List LinkAnswer)
    → connection_of 1 s.connections ≡ None → IsLogOf (state_after_event device) s (call_log_up_to me peer call to now answers)
    → is_some (call_over me peer call now answers).end ≡ true → HasRoom (state_after_event device) s me peer call
    → IsSameCall (call_over me peer call now answers) (local_call (state_after_event device) cutting s me peer call)
