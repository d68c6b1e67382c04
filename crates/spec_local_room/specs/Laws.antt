-- Calls over the closed server have room: it answers each of their requests by one frame at most, and a tick gives one
-- sample at most, so nothing waits where a request is sent. So they are the same however their answers are cut.
use Rattle.std.specs.Prelude.{◌≡◌, ℕ, ◌≤◌, ◌<◌, ◌^◌, List, [], ◌∷◌, ◌++◌, length, Bool, true, false, is_some, Some, None}
use Rattle.spec_formats.specs.Header.{AmsAddress, IsAddress}
use Rattle.spec_machine.specs.AdsDevice.{DescriptionReading, server_step}
use Rattle.spec_machine.specs.Client as served
use Rattle.spec_machine.specs.Connection.{connection_of}
use Rattle.spec_machine.specs.MachineState.{MachineState}
use Rattle.spec_machine.specs.Moves.{EventStep}
use Rattle.spec_machine.specs.World.{World}
use Rattle.spec_samples.specs.Row.{Row}
use Rattle.spec_client.specs.Calls.{Call, Info, State, Control, Get, Set, Symbols, Watch, Show, Record}
use Rattle.spec_client.specs.CallLog.{call_log_up_to}
use Rattle.spec_client.specs.CallOver.{call_over}
use Rattle.spec_client.specs.Conversation.{LinkAnswer, LoopEnd, CallEnded, Conversation}
use Rattle.spec_client.specs.Stages.{BadValue, TimedOut}
use Rattle.spec_local.specs.LinkLog.{IsLogOf}
use Rattle.spec_local.specs.LocalCall.{Cutting, local_call, local_call_within}
use Rattle.spec_cutting.specs.Joining.{IsSameCall, bytes_sent}
use Rattle.spec_cutting.specs.Laws.{HasRoom}

-- the greatest length of a name, and the greatest number of samples that a call takes
abbrev pub MAX_NAME : ℕ
MAX_NAME = 65536

abbrev pub MAX_SAMPLES : ℕ
MAX_SAMPLES = 1000000

-- the greatest number of names that a recording has
abbrev pub MAX_NAMES : ℕ
MAX_NAMES = 16

-- names that are short
abbrev pub HasShortNames : List (List ℕ) → Type 0
HasShortNames [] = Unit {0}
HasShortNames (name ∷ names) = (length name ≤ MAX_NAME) × HasShortNames names

-- a call whose names are short, and that takes not too many samples: of one name at least one, of a recording's some names any number
abbrev pub IsBounded : Call → Type 0
IsBounded Info = Unit {0}
IsBounded State = Unit {0}
IsBounded (Control ads device) = Unit {0}
IsBounded (Get name) = length name ≤ MAX_NAME
IsBounded (Set name text) = length name ≤ MAX_NAME
IsBounded Symbols = Unit {0}
IsBounded (Watch name watching) = (length name ≤ MAX_NAME) × (1 ≤ watching.count) × (watching.count ≤ MAX_SAMPLES)
IsBounded (Show name) = length name ≤ MAX_NAME
IsBounded (Record names watching first) =
    HasShortNames names × (1 ≤ length names) × (length names ≤ MAX_NAMES) × (watching.count ≤ MAX_SAMPLES)

-- the server's machine, over any reading of descriptions
abbrev pub closed_step : DescriptionReading → EventStep World served.Client
closed_step reading = server_step reading

-- a bounded call over this machine, between two addresses, where number 1 is free
pub record IsLocal (s : MachineState World served.Client) (me peer : AmsAddress) (call : Call) : Type 0 where
  pub none : connection_of 1 s.connections ≡ None
  pub moment : s.moment < 2 ^ 64
  pub from : IsAddress me
  pub to : IsAddress peer
  pub bounded : IsBounded call

-- Such a call has room.
abbrev pub LocalCallsHaveRoom : Type 0
LocalCallsHaveRoom = (reading : DescriptionReading) (s : MachineState World served.Client) (me peer : AmsAddress) (call : Call)
    → IsLocal s me peer call → HasRoom (closed_step reading) s me peer call

-- So it is the same, however its answers are cut.
abbrev pub LocalCallsAreOne : Type 0
LocalCallsAreOne = (reading : DescriptionReading) (cutting other : Cutting) (s : MachineState World served.Client) (me peer : AmsAddress) (call : Call)
    → IsLocal s me peer call
    → IsSameCall (local_call (closed_step reading) cutting s me peer call) (local_call (closed_step reading) other s me peer call)

-- And a call over a link whose log is one of this machine is the local call, cut in any way, where the call is over.
abbrev pub LocalLinksAreOne : Type 0
LocalLinksAreOne = (reading : DescriptionReading) (cutting : Cutting) (s : MachineState World served.Client) (me peer : AmsAddress) (call : Call)
    (to : List ℕ) (now : ℕ) (answers : List LinkAnswer)
    → IsLocal s me peer call → IsLogOf (closed_step reading) s (call_log_up_to me peer call to now answers)
    → is_some (call_over me peer call now answers).end ≡ true
    → IsSameCall (call_over me peer call now answers) (local_call (closed_step reading) cutting s me peer call)

-- a call that sent, printed and kept what begins what another did
pub record BeginsCall (c d : Conversation) : Type 0 where
  pub sent_left : List (List ℕ)
  pub sent : bytes_sent d ≡ bytes_sent c ++ sent_left
  pub text_left : List ℕ
  pub text : d.text ≡ c.text ++ text_left
  pub kept_left : List Row
  pub kept : d.kept ≡ c.kept ++ kept_left

-- Behind any number of answers, cut in any way, it is a beginning of the one call.
abbrev pub LocalCallsBegin : Type 0
LocalCallsBegin = (reading : DescriptionReading) (cutting other : Cutting) (count : ℕ) (s : MachineState World served.Client) (me peer : AmsAddress)
    (call : Call) → IsLocal s me peer call
    → BeginsCall (local_call_within (closed_step reading) cutting count s me peer call) (local_call (closed_step reading) other s me peer call)

-- So is a call over a link whose log, so far, is one of this machine.
abbrev pub LocalLinksBegin : Type 0
LocalLinksBegin = (reading : DescriptionReading) (cutting : Cutting) (s : MachineState World served.Client) (me peer : AmsAddress) (call : Call)
    (to : List ℕ) (now : ℕ) (answers : List LinkAnswer)
    → IsLocal s me peer call → IsLogOf (closed_step reading) s (call_log_up_to me peer call to now answers)
    → BeginsCall (call_over me peer call now answers) (local_call (closed_step reading) cutting s me peer call)

abbrev pub is_setting : Call → Bool
is_setting (Set name text) = true
is_setting call = false

-- an end that is no timeout, and that says of no text that it is no value, unless one is set
abbrev pub IsAnswered : Bool → LoopEnd → Type 0
IsAnswered sets (CallEnded (TimedOut sent now)) = ⊥
IsAnswered sets (CallEnded BadValue) = sets ≡ true
IsAnswered sets end = Unit {0}

-- a call that ends, and how
pub record EndsAnswered (sets : Bool) (c : Conversation) : Type 0 where
  pub end : LoopEnd
  pub is : c.end ≡ Some end
  pub answered : IsAnswered sets end

-- It ends, by no timeout, and only where a value is set for a text that is none.
abbrev pub LocalCallsEnd : Type 0
LocalCallsEnd = (reading : DescriptionReading) (cutting : Cutting) (s : MachineState World served.Client) (me peer : AmsAddress) (call : Call)
    → IsLocal s me peer call → EndsAnswered (is_setting call) (local_call (closed_step reading) cutting s me peer call)
