-- How a script answers: which event comes next, and which log is answered by it.
use Rattle.std.specs.Prelude.{◌≡◌, List, [], ◌∷◌, ◌++◌, length, true, false, Option, Some, None, IsSomeAnd}
use Rattle.ads_outside.specs.declared.event.Event.{Event}
use Rattle.ads_outside.specs.declared.event.Event.TheVariants as event
use Rattle.ads_outside.specs.declared.moves.Move.{Move}
use Rattle.ads_outside.specs.declared.moves.Move.TheVariants as move
use Rattle.spec_machine.specs.MachineState.{MachineState}
use Rattle.spec_machine.specs.Moves.{EventStep}
use Rattle.spec_machine.specs.Offers.{is_among}
use Rattle.spec_machine.specs.Peers.{Peers, first_peers, with_room, with_failing}
use Rattle.spec_machine.specs.Peers.{taken_by, peers_after_move}
use Rattle.spec_machine.specs.Play.{play_of}
use Rattle.spec_machine.specs.ScriptLine.{ScriptLine, Happens, TakesAtMost, FailsNext}
use Rattle.spec_machine.specs.Turns.{KeepsTurns}

-- an event of a script, how the connections answer from there on, and the lines behind it
pub record NextEvent : Type 0 where
  pub event : Event
  pub peers : Peers
  pub behind : List ScriptLine

-- the next event of some lines, if there is one
abbrev pub next_event_of : Peers → List ScriptLine → Option NextEvent
next_event_of peers [] = None
next_event_of peers (Happens e ∷ lines) =
    Some (record { event = e; peers = peers; behind = lines })
next_event_of peers (TakesAtMost c n ∷ lines) =
    Some (record { event = event.Writable c; peers = with_room c n peers; behind = lines })
next_event_of peers (FailsNext c ∷ lines) = next_event_of (with_failing c peers) lines

-- an offer fails where the next one to its connection is to fail, and else as much is taken as there is room
abbrev pub IsAnswer : Peers → Move → Type 0
IsAnswer peers (move.Event e) = ⊥
IsAnswer peers (move.Took c offered bytes) =
    (is_among c peers.failing ≡ false) × (length bytes ≡ taken_by peers.rooms c offered)
IsAnswer peers (move.Lost c) = is_among c peers.failing ≡ true
IsAnswer peers (move.Shut c) = Unit {0}

-- A log has the events of these lines, all of them and in order, and each offer is answered as they say.
unfoldable pub AnsweredBy : Peers → List ScriptLine → List Move → Type 0
AnsweredBy peers lines [] = next_event_of peers lines ≡ None
AnsweredBy peers lines (move.Event e ∷ ms) = IsSomeAnd (next_event_of peers lines)
    (λ next. (next.event ≡ e) × AnsweredBy (peers_after_move next.peers (move.Event e)) next.behind ms)
AnsweredBy peers lines (move.Took c offered bytes ∷ ms) =
    IsAnswer peers (move.Took c offered bytes)
    × AnsweredBy (peers_after_move peers (move.Took c offered bytes)) lines ms
AnsweredBy peers lines (move.Lost c ∷ ms) =
    IsAnswer peers (move.Lost c) × AnsweredBy (peers_after_move peers (move.Lost c)) lines ms
AnsweredBy peers lines (move.Shut c ∷ ms) =
    IsAnswer peers (move.Shut c) × AnsweredBy (peers_after_move peers (move.Shut c)) lines ms

-- There is one log that keeps the turns and is answered by a script: the script's play.
abbrev pub HasOneLog : (W C : Type 0) → Type 0
HasOneLog W C = (step : EventStep W C) (s : MachineState W C) (lines : List ScriptLine) (log : List Move)
    → KeepsTurns step s log → AnsweredBy first_peers lines log → log ≡ play_of step s lines

-- A log has the events of a first part of these lines, and each offer is answered as they say.
pub record AnsweredSoFar (peers : Peers) (lines : List ScriptLine) (log : List Move) : Type 0 where
  pub read : List ScriptLine
  pub left : List ScriptLine
  pub whole : lines ≡ read ++ left
  pub answered : AnsweredBy peers read log

abbrev pub IsFirstPart : List Move → List Move → Type 0
IsFirstPart first whole = (rest : List Move) × (whole ≡ first ++ rest)

-- What is answered by a script so far is so wherever it is cut off.
abbrev pub IsAnsweredAtEachCut : Type 0
IsAnsweredAtEachCut = (lines : List ScriptLine) (log later : List Move)
    → AnsweredSoFar first_peers lines (log ++ later) → AnsweredSoFar first_peers lines log

-- A log that keeps the turns and is answered by a script so far begins the script's play.
abbrev pub BeginsItsPlay : (W C : Type 0) → Type 0
BeginsItsPlay W C = (step : EventStep W C) (s : MachineState W C) (lines : List ScriptLine) (log : List Move)
    → KeepsTurns step s log → AnsweredSoFar first_peers lines log → IsFirstPart log (play_of step s lines)
