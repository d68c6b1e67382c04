-- A link to a machine, by its log: what it was connected to, what was sent, and what came.
use Rattle.std.specs.Prelude.{◌≡◌, ℕ, ◌+◌, ◌-◌, ◌==◌, List, [], ◌∷◌, length, if◌then◌else◌, Option, Some, None}
use Rattle.ads_outside.specs.declared.event.Event.TheVariants as event
use Rattle.ads_outside.specs.declared.link_event.LinkEvent.{LinkEvent}
use Rattle.ads_outside.specs.declared.link_event.LinkEvent.TheVariants as come
use Rattle.ads_outside.specs.declared.link_move.LinkMove.{LinkMove}
use Rattle.ads_outside.specs.declared.link_move.LinkMove.TheVariants as link
use Rattle.spec_machine.specs.Connection.{Connection, connection_of}
use Rattle.spec_machine.specs.MachineState.{MachineState, exchange_of, with_exchange, without_gone}
use Rattle.spec_machine.specs.Moves.{EventStep, with_gone}
use Rattle.spec_client.specs.Conversation.{LinkAnswer, Bytes, Quiet, Closed, bytes_of}
use Rattle.spec_local.specs.LocalCall.{Cutting, Answered, local_answer}

-- what came, as an answer
abbrev pub answer_of : LinkEvent → LinkAnswer
answer_of (come.Bytes bytes now) = Bytes bytes now
answer_of (come.Quiet now) = Quiet now
answer_of (come.Closed now) = Closed now

-- the greatest number of bytes, less one, where an answer is cut as this one was
abbrev pub most_of : LinkAnswer → ℕ
most_of answer = length (bytes_of answer) - 1

-- a connection is shut and forgotten, if it is there
abbrev pub without_connection : {W C : Type 0} → Option (Connection C) → MachineState W C → MachineState W C
without_connection None s = s
without_connection (Some k) s = without_gone (with_exchange (with_gone (exchange_of s k)) s)

-- what the machine gives next, cut as this answer was
abbrev pub answered_like : {W C : Type 0} → EventStep W C → MachineState W C → LinkAnswer → Answered W C
answered_like step s answer = local_answer step (most_of answer) s

-- the machine behind a move of the link: connection 1 is opened anew, takes a piece, or gives what came
unfoldable pub machine_after_link_move : {W C : Type 0} → EventStep W C → MachineState W C → LinkMove → MachineState W C
machine_after_link_move step s (link.Connected to now) =
    step (without_connection (connection_of 1 s.connections) s) (event.Opened 1)
machine_after_link_move step s (link.Refused to) = s
machine_after_link_move step s (link.Sent bytes) = step s (event.Piece 1 bytes)
machine_after_link_move step s (link.Came e) = (answered_like step s (answer_of e)).machine

unfoldable pub machine_after_log : {W C : Type 0} → EventStep W C → MachineState W C → List LinkMove → MachineState W C
machine_after_log step s [] = s
machine_after_log step s (m ∷ ms) = machine_after_log step (machine_after_link_move step s m) ms

-- a move that a link to a machine in this state makes: no connection is refused, and what comes is the machine's
abbrev pub IsMoveOf : {W C : Type 0} → EventStep W C → MachineState W C → LinkMove → Type 0
IsMoveOf step s (link.Connected to now) = now ≡ s.moment
IsMoveOf step s (link.Refused to) = ⊥
IsMoveOf step s (link.Sent bytes) = Unit {0}
IsMoveOf step s (link.Came e) = (answered_like step s (answer_of e)).answer ≡ answer_of e

-- moves that it makes one after another
unfoldable pub IsLogOf : {W C : Type 0} → EventStep W C → MachineState W C → List LinkMove → Type 0
IsLogOf step s [] = Unit {0}
IsLogOf step s (m ∷ ms) = IsMoveOf step s m × IsLogOf step (machine_after_link_move step s m) ms

-- each answer is cut as it was, the first of them behind so many others
abbrev pub cutting_from : ℕ → List LinkAnswer → Cutting
cutting_from first [] n = 0
cutting_from first (answer ∷ answers) n = if n == first then most_of answer else cutting_from (first + 1) answers n

-- that of a link stands behind the answer of its connection
abbrev pub cutting_of : List LinkAnswer → Cutting
cutting_of answers = cutting_from 1 answers
