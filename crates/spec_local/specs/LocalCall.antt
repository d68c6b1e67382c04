-- A call over the server in the same process: the answers of the link are the machine's, on connection 1.
use Rattle.std.specs.Prelude.{ℕ, zero, suc, ◌+◌, ◌-◌, ◌^◌, List, [], ◌∷◌, flat_map, length, take, drop, min, is_some, if◌then◌else◌}
use Rattle.ads_outside.specs.declared.event.Event.TheVariants as event
use Rattle.ads_outside.specs.declared.moves.Move.TheVariants as move
use Rattle.spec_formats.specs.Header.{AmsAddress}
use Rattle.spec_machine.specs.MachineState.{MachineState}
use Rattle.spec_machine.specs.Moves.{EventStep, state_after_move}
use Rattle.spec_machine.specs.Connection.{connection_of}
use Rattle.spec_machine.specs.Offers.{waiting_at}
use Rattle.spec_machine.specs.Running.{is_to_be_shut}
use Rattle.spec_client.specs.Calls.{Call}
use Rattle.spec_client.specs.Conversation.{LinkAnswer, Bytes, Quiet, Closed, Sent, Conversation, MAX_ANSWERS, conversation_begun, conversation_after}

-- This project's own choice: where nothing waits, a hundredth of a second passes.
abbrev pub LOCAL_TICK : ℕ
LOCAL_TICK = 100000

-- This project's own choice: the clock stands still at the last moment of 64 bits, which no call reaches.
abbrev pub LAST_MOMENT : ℕ
LAST_MOMENT = 2 ^ 64 - 1

-- the moment of the next tick
abbrev pub next_tick : ℕ → ℕ
next_tick moment = min (moment + LOCAL_TICK) LAST_MOMENT

-- the greatest number of bytes of the n-th answer, less one
abbrev pub Cutting : Type 0
Cutting = ℕ → ℕ

-- the machine, and the call that runs over it
pub record LocalScene (W C : Type 0) : Type 0 where
  pub machine : MachineState W C
  pub conversation : Conversation

-- each request is one piece of connection 1
unfoldable pub machine_after_pieces : {W C : Type 0} → EventStep W C → MachineState W C → List Sent → MachineState W C
machine_after_pieces step s [] = s
machine_after_pieces step s (sent ∷ more) =
    machine_after_pieces step (step s (event.Piece 1 sent.bytes)) more

-- the output of connection 1 that waits
abbrev pub waiting_bytes : {W C : Type 0} → MachineState W C → List ℕ
waiting_bytes s = flat_map (λ frame. frame) (waiting_at 1 s)

-- an answer, and the machine that it was taken from
pub record Answered (W C : Type 0) : Type 0 where
  pub answer : LinkAnswer
  pub machine : MachineState W C

abbrev pub answered : {W C : Type 0} → LinkAnswer → MachineState W C → Answered W C
answered answer s = record { answer = answer; machine = s }

-- the first of the bytes that wait are taken
unfoldable pub bytes_taken : {W C : Type 0} → EventStep W C → MachineState W C → List ℕ → Answered W C
bytes_taken step s bytes =
    answered (Bytes bytes s.moment) (state_after_move step s (move.Took 1 (length bytes) bytes))

-- the output that waits, as far as an answer takes it, or else another answer
abbrev pub waiting_or : {W C : Type 0} → EventStep W C → ℕ → MachineState W C → Answered W C → List ℕ → Answered W C
waiting_or step most s other [] = other
waiting_or step most s other (b ∷ bs) = bytes_taken step s (b ∷ take most bs)

-- what waits behind a tick, or Quiet
unfoldable pub answer_after_tick : {W C : Type 0} → EventStep W C → ℕ → MachineState W C → Answered W C
answer_after_tick step most s =
    waiting_or step most s (answered (Quiet s.moment) s) (waiting_bytes s)

-- what waits; or else Closed where the connection is to be shut; or else a tick, and what waits then, or Quiet
unfoldable pub local_answer : {W C : Type 0} → EventStep W C → ℕ → MachineState W C → Answered W C
local_answer step most s =
    let later = answer_after_tick step most (step s (event.Tick (next_tick s.moment))) in
    let other = if is_to_be_shut (connection_of 1 s.connections) then answered (Closed s.moment) s else later in
    waiting_or step most s other (waiting_bytes s)

-- the call takes an answer, and what it sends then comes to the machine
unfoldable pub scene_after : {W C : Type 0} → EventStep W C → Conversation → Answered W C → LocalScene W C
scene_after step c a =
    let c' = conversation_after c a.answer in
    record { machine = machine_after_pieces step a.machine (drop (length c.sent) c'.sent); conversation = c' }

-- the next answer in this scene
abbrev pub answer_in : {W C : Type 0} → EventStep W C → Cutting → LocalScene W C → Answered W C
answer_in step cutting x = local_answer step (cutting x.conversation.answers) x.machine

abbrev pub scene_behind : {W C : Type 0} → EventStep W C → Cutting → LocalScene W C → LocalScene W C
scene_behind step cutting x = scene_after step x.conversation (answer_in step cutting x)

-- at most so many answers, until the call is over
unfoldable pub scene_after_answers : {W C : Type 0} → EventStep W C → Cutting → ℕ → LocalScene W C → LocalScene W C
scene_after_answers step cutting zero x = x
scene_after_answers step cutting (suc n) x =
    let later = scene_after_answers step cutting n (scene_behind step cutting x) in
    if is_some x.conversation.end then x else later

-- those answers
unfoldable pub answers_in : {W C : Type 0} → EventStep W C → Cutting → ℕ → LocalScene W C → List LinkAnswer
answers_in step cutting zero x = []
answers_in step cutting (suc n) x =
    let later = (answer_in step cutting x).answer ∷ answers_in step cutting n (scene_behind step cutting x) in
    if is_some x.conversation.end then [] else later

-- connection 1 is opened, and the call's first request is sent
abbrev pub scene_begun : {W C : Type 0} → EventStep W C → MachineState W C → AmsAddress → AmsAddress → Call → LocalScene W C
scene_begun step s me peer call =
    let c = conversation_begun me peer call s.moment in
    record { machine = machine_after_pieces step (step s (event.Opened 1)) c.sent; conversation = c }

-- a call over a machine, where the answers are cut so, after at most so many answers
abbrev pub local_call_within : {W C : Type 0} → EventStep W C → Cutting → ℕ → MachineState W C → AmsAddress → AmsAddress → Call → Conversation
local_call_within step cutting n s me peer call =
    (scene_after_answers step cutting n (scene_begun step s me peer call)).conversation

-- all of it
abbrev pub local_call : {W C : Type 0} → EventStep W C → Cutting → MachineState W C → AmsAddress → AmsAddress → Call → Conversation
local_call step cutting s me peer call =
    local_call_within step cutting MAX_ANSWERS s me peer call

-- the answers of the machine in it
abbrev pub local_answers : {W C : Type 0} → EventStep W C → Cutting → MachineState W C → AmsAddress → AmsAddress → Call → List LinkAnswer
local_answers step cutting s me peer call =
    answers_in step cutting MAX_ANSWERS (scene_begun step s me peer call)
