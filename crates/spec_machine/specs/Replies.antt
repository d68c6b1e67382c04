-- The reply to an AMS packet. Beckhoff Information System, "AMS Header", "ADS Commands".
use Rattle.std.specs.Prelude.{ℕ, List, [], ◌∷◌, ◌++◌, length, ◌==◌, if◌then◌else◌, Option, Some, None}
use Rattle.spec_plant.specs.World.{Block}
use Rattle.spec_formats.specs.Codes.{no_error}
use Rattle.spec_formats.specs.Header.{AmsHeader, header_of, header_bytes, response_header}
use Rattle.spec_formats.specs.Numbers.{number16, number32}
use Rattle.spec_formats.specs.Reply.{Reply, ReadDeviceInfo, Read, Write, ReadState, WriteControl}
use Rattle.spec_formats.specs.Reply.{AddDeviceNotification, DeleteDeviceNotification, ReadWrite}
use Rattle.spec_formats.specs.Reply.{facts_at, written_bytes}
use Rattle.spec_machine.specs.Device.{Answer, Answered, Silent, Closing, FrameOutcome}
use Rattle.spec_machine.specs.World.{World}
use Rattle.spec_machine.specs.Client.{Client}
use Rattle.spec_machine.specs.Acts.{Outcome, outcomes_of, memory_after_acts, client_after_acts}
use Rattle.spec_machine.specs.Sums.{packed}
use Rattle.spec_machine.specs.Decisions.{ReplyForm, Single, Sum, Decision, NoAnswer, EndConnection}
use Rattle.spec_machine.specs.Decisions.{AmsError, Perform, acts_in}

-- a command, and the reply that it makes of how its request ended
pub record OutcomeForm : Type 0 where
  pub command : ℕ
  pub reply : Outcome → Reply

abbrev form : ℕ → (Outcome → Reply) → OutcomeForm
form command reply = record { command = command; reply = reply }

abbrev pub outcome_forms : List OutcomeForm
outcome_forms =
    form 1 (λ o. ReadDeviceInfo o.code (facts_at 0 o.bytes))
    ∷ form 2 (λ o. Read o.code o.bytes)
    ∷ form 3 (λ o. Write o.code)
    ∷ form 4 (λ o. ReadState o.code (number16 0 o.bytes) (number16 2 o.bytes))
    ∷ form 5 (λ o. WriteControl o.code)
    ∷ form 6 (λ o. AddDeviceNotification o.code (number32 0 o.bytes))
    ∷ form 7 (λ o. DeleteDeviceNotification o.code)
    ∷ form 9 (λ o. ReadWrite o.code o.bytes)
    ∷ []

unfoldable pub reply_in_forms : List OutcomeForm → ℕ → Outcome → Reply
reply_in_forms [] command o = Write o.code
reply_in_forms (f ∷ fs) command o = if f.command == command then f.reply o else reply_in_forms fs command o

-- the reply of a command whose request ended so; a refused one has its refused form
abbrev pub reply_payload : ℕ → Outcome → List ℕ
reply_payload command o = written_bytes (reply_in_forms outcome_forms command o)

-- how the acts of a packet ended in all: as the one request did, or with the parts packed
abbrev pub ended_as : List Outcome → Outcome
ended_as [] = record { code = no_error; bytes = [] }
ended_as (o ∷ os) = o

unfoldable pub outcome_in_all : ReplyForm → List Outcome → Outcome
outcome_in_all Single os = ended_as os
outcome_in_all (Sum form) os = record { code = no_error; bytes = packed form os }

-- the response to a header: addresses exchanged, its command and invoke id, an AMS error, and data
unfoldable pub response_packet : AmsHeader → ℕ → List ℕ → List ℕ
response_packet h code payload = header_bytes (response_header h code (length payload)) ++ payload

-- what a decision answers, over the bytes before its acts
abbrev pub answer_to : AmsHeader → Decision → List Block → Answer
answer_to h NoAnswer memory = Silent
answer_to h EndConnection memory = Closing
answer_to h (AmsError code) memory = Answered (response_packet h code [])
answer_to h (Perform acts form) memory =
    Answered (response_packet h no_error
    (reply_payload h.command (outcome_in_all form (outcomes_of memory acts))))

abbrev pub answer_of : Option AmsHeader → Decision → List Block → Answer
answer_of None decision memory = Silent
answer_of (Some h) decision memory = answer_to h decision memory

-- a decision is run: its acts on the bytes and on the client, and its answer
unfoldable pub performed : Decision → List ℕ → World → Client → FrameOutcome World Client
performed decision packet w c = record {
  answer = answer_of (header_of packet) decision w.memory;
  world = record w { memory = memory_after_acts w.memory (acts_in decision) };
  client = client_after_acts c (acts_in decision);
}
