-- What a relay passes on: laws over every log.
use Rattle.std.specs.Prelude.{◌≡◌, ◌≤◌, ℕ, List, [], ◌∷◌, map, take, Bool, true, false, count_by, Option, Some, None}
use Rattle.spec_frames.specs.Division.{frames_of}
use Rattle.ads_outside.specs.declared.moves.Move.{Move}
use Rattle.spec_plant.specs.Description.{Description}
use Rattle.spec_machine.specs.Connection.{bytes_of, connection_of}
use Rattle.spec_machine.specs.MachineState.{output_of}
use Rattle.spec_machine.specs.Moves.{state_after}
use Rattle.spec_machine.specs.Offers.{taken_of}
use Rattle.spec_machine.specs.Turns.{KeepsTurns}
use Rattle.spec_machine.specs.Delivery.{IsPrefix, OnlyAdds, KeepsThere, is_cut_off, is_short}
use Rattle.spec_relay.specs.RelayState.{Request, RelayConnection, RelayState, relay_start}
use Rattle.spec_relay.specs.Routing.{Fate, Asked, Answered}
use Rattle.spec_relay.specs.RelayMoves.{relay_after_event}
use Rattle.spec_relay.specs.Passages.{Passage, passages_of}
use Rattle.spec_relay.specs.PassedOn.{all_frames_to, packets_from, all_asked, all_answered, is_response_packet}

-- the frames that a connection was given
abbrev pub frames_given : Option RelayConnection → List (List ℕ)
frames_given None = []
frames_given (Some k) = map bytes_of k.produced

abbrev pub frames_given_to : ℕ → RelayState → List (List ℕ)
frames_given_to d s = frames_given (connection_of d s.connections)

-- the state after a log, and the passages of it
abbrev pub relay_state_after : Description → List Move → RelayState
relay_state_after description log = state_after relay_after_event (relay_start description) log

abbrev pub relay_passages : Description → List Move → List Passage
relay_passages description log = passages_of (relay_start description) log

-- A connection is given the frames that passages bring to it, unchanged and in their order, and no others but the relay's own
-- answers to its own frames.
abbrev pub GivesPassages : Type 0
GivesPassages = (description : Description) (d : ℕ) (log : List Move)
    → frames_given_to d (relay_state_after description log) ≡ all_frames_to d (relay_passages description log)

-- the packets of the frames that were taken of a connection
abbrev pub packets_taken : Option RelayConnection → List (List ℕ)
packets_taken None = []
packets_taken (Some k) = take k.frames_taken (frames_of k.received)

-- The passages of one sender are its frames that were taken, each once and in its order.
abbrev pub TakesInOrder : Type 0
TakesInOrder = (description : Description) (c : ℕ) (log : List Move)
    → packets_from c (relay_passages description log)
    ≡ packets_taken (connection_of c (relay_state_after description log).connections)

-- The requests that responses answer are, each once, among those that were passed on: so a response reaches no connection
-- but the one whose request it answers, and no request is answered twice.
abbrev pub AnswersEachOnce : Type 0
AnswersEachOnce = (description : Description) (log : List Move) (test : Request → Bool)
    → count_by test (all_answered (relay_passages description log)) ≤ count_by test (all_asked (relay_passages description log))

-- A frame is passed as a response exactly where it has the mark of one.
abbrev pub IsMarked : Passage → Fate → Type 0
IsMarked p (Asked d) = is_response_packet p.packet ≡ false
IsMarked p (Answered d) = is_response_packet p.packet ≡ true
IsMarked p fate = Unit {0}

unfoldable pub AreMarked : List Passage → Type 0
AreMarked [] = Unit {0}
AreMarked (p ∷ ps) = IsMarked p p.fate × AreMarked ps

abbrev pub PassesByMark : Type 0
PassesByMark = (description : Description) (log : List Move) → AreMarked (relay_passages description log)

-- An event of the relay only adds to what connections are given, and keeps them there.
abbrev pub RelayOnlyAdds : Type 0
RelayOnlyAdds = OnlyAdds relay_after_event

abbrev pub RelayKeepsThere : Type 0
RelayKeepsThere = KeepsThere relay_after_event

-- What a connection takes begins what it is given.
abbrev pub RelayDelivers : Type 0
RelayDelivers = (description : Description) (c : ℕ) (log : List Move) → KeepsTurns relay_after_event (relay_start description) log
    → IsPrefix (taken_of c log) (output_of c (relay_state_after description log))

-- It is all of that, unless its last offer was short, or the connection was closed by its peer or lost.
abbrev pub RelayDeliversAll : Type 0
RelayDeliversAll = (description : Description) (c : ℕ) (log : List Move) → KeepsTurns relay_after_event (relay_start description) log
    → is_short c log ≡ false → is_cut_off c log ≡ false
    → taken_of c log ≡ output_of c (relay_state_after description log)
