-- The lines of a script, the first events of which a log has: those were taken out of the lines. No public clause cites it.
use Rattle.std.specs.Prelude.{◌≡◌, ℕ, List, [], ◌∷◌, ◌++◌, length, take, drop}
use Rattle.ads_outside.specs.declared.event.Event.{Event}
use Rattle.ads_outside.specs.declared.moves.Move.{Move}
use Rattle.ads_outside.specs.declared.moves.Move.TheVariants as move
use Rattle.spec_machine.specs.ScriptLine.{ScriptLine, Happens, TakesAtMost, FailsNext}
use Rattle.replay_script.specs.declared.rooms.Rooms.{Rooms}
use Rattle.replay_script.specs.declared.script_line.ScriptLine as declared
use Rattle.replay_script.specs.declared.script_line.ScriptLine.TheVariants as line
use Rattle.replay_script.specs.Script.{event_count}
use Rattle.replay_script.specs.ScriptWire.{PlaysOn}

-- a line that is an event
abbrev pub IsHappening : declared.ScriptLine → Type 0
IsHappening (line.Happens e) = Unit {0}
IsHappening (line.TakesAtMost conn room) = ⊥
IsHappening (line.FailsNext conn) = ⊥

-- the events of a log
unfoldable pub events_of : List Move → List Event
events_of [] = []
events_of (move.Event e ∷ ms) = e ∷ events_of ms
events_of (move.Took c offered bytes ∷ ms) = events_of ms
events_of (move.Lost c ∷ ms) = events_of ms
events_of (move.Shut c ∷ ms) = events_of ms

-- lines, the first of which that are events have these events
unfoldable pub with_events : List Event → List ScriptLine → List ScriptLine
with_events [] lines = lines
with_events (e ∷ es) [] = []
with_events (e ∷ es) (Happens taken ∷ lines) = Happens e ∷ with_events es lines
with_events (e ∷ es) (TakesAtMost c n ∷ lines) = TakesAtMost c n ∷ with_events es lines
with_events (e ∷ es) (FailsNext c ∷ lines) = FailsNext c ∷ with_events (e ∷ es) lines

-- the lines of the script, where the log has the events of the first ones
abbrev pub lines_told : List ScriptLine → List Move → List ScriptLine
lines_told lines log = with_events (events_of log) lines

-- the script plays on from this place: the log has all events before it
pub record PlaysFrom (lines : List ScriptLine) (place : ℕ) (log : List Move) (rooms : Rooms)
    (failing : List ℕ) (settled ends : ℕ) : Type 0 where
  pub plays : PlaysOn (lines_told lines log) (drop place (lines_told lines log)) log rooms failing settled ends
  pub told : event_count (take place lines) ≡ length (events_of log)
