-- A wire that plays a script.
use Rattle.std.specs.Prelude.{◌≡◌, ℕ, ◌+◌, ◌<◌, ◌≤◌, List, [], ◌∷◌, ◌++◌, length, take, map, Option, Some, None}
use Rattle.ads_outside.specs.declared.event.Event.{Event}
use Rattle.ads_outside.specs.declared.listening.Listening.{Listening}
use Rattle.ads_outside.specs.declared.moves.Move.{Move}
use Rattle.ads_outside.specs.declared.moves.Move.TheVariants as move
use Rattle.ads_outside.specs.Opened.{opened_in}
use Rattle.ads_outside.specs.Rose.{raised}
use Rattle.ads_outside.specs.WireState.{WireState}
use Rattle.spec_machine.specs.Offers.{is_among}
use Rattle.spec_machine.specs.Peers.{Peers, first_peers}
use Rattle.spec_machine.specs.Reading.{is_among as is_listed}
use Rattle.spec_machine.specs.ScriptLine.{ScriptLine, FailsNext}
use Rattle.serve_loop.specs.Leads.{events_in}
use Rattle.replay_script.specs.declared.rooms.Rooms.{Rooms}
use Rattle.replay_script.specs.Answering.{AnsweredBy}
use Rattle.replay_script.specs.Fresh.{OpenNew}
use Rattle.replay_script.specs.Rooms.{HoldsRooms}

pub record PlayedScript : Type 0 where
  -- all lines of the script, and how many of them were read
  pub lines : List ScriptLine
  pub at : ℕ
  pub log : List Move
  pub starts : List Listening
  -- the events that were given, how often End was answered, the offers that failed, the calls that wanted memory
  pub events : ℕ
  pub ends : ℕ
  pub faults : ℕ
  pub wants : ℕ

-- it tells its log, which says what each connection took; no start and no next event ever fails
abbrev pub state_of_played : PlayedScript → WireState
state_of_played w = record {
  history = record {
    log = Some w.log;
    streams = None;
    starts = Some w.starts;
    opened = opened_in w.log;
    events = w.events;
    ends = w.ends;
    stops = 0;
  };
  faults = w.faults;
  wants = w.wants;
}

abbrev pub unplayed : List ScriptLine → PlayedScript
unplayed lines =
    record { lines = lines; at = 0; log = []; starts = []; events = 0; ends = 0; faults = 0; wants = 0 }

-- once End was answered, the log has all events of the script, and each offer is answered as its lines say
abbrev pub IsPlayed : PlayedScript → Type 0
IsPlayed w = 0 < w.ends → AnsweredBy first_peers w.lines w.log

-- what is told after an event was given, or End was answered
abbrev pub told_after : Option Event → PlayedScript → WireState
told_after None w = state_of_played (record w { ends = raised w.ends })
told_after (Some e) w =
    state_of_played (record w { log = w.log ++ move.Event e ∷ []; events = raised w.events })

-- the connections whose next offer fails, behind lines that fail offers to these
abbrev pub failing_behind : List ℕ → List ℕ → List ℕ
failing_behind [] failing = failing
failing_behind (c ∷ cs) failing = failing_behind cs (c ∷ failing)

-- the lines that fail offers to these connections, and others behind them
abbrev pub lines_ahead : List ℕ → List ScriptLine → List ScriptLine
lines_ahead ahead left = map FailsNext ahead ++ left

-- how the connections answer now, and that the lines that are left go on behind the log; lines that fail offers, and were read
-- since the last event, hold from the next event on
pub record PlaysOn (lines left : List ScriptLine) (log : List Move) (rooms : Rooms)
    (failing : List ℕ) (settled ends : ℕ) : Type 0 where
  pub peers : Peers
  -- the connections of those lines
  pub ahead : List ℕ
  -- where what follows is answered by the lines that are left, all is answered by the script
  pub so_far : (ms : List Move) → AnsweredBy peers (lines_ahead ahead left) ms → AnsweredBy first_peers lines (log ++ ms)
  pub rooms_are : HoldsRooms rooms peers.rooms
  -- the numbers of the first lines hold now, and all of them from the next event on
  pub within : settled ≤ length failing
  pub failing_are : (c : ℕ) → is_listed c (take settled failing) ≡ is_among c peers.failing
  pub ahead_are : (c : ℕ) → is_listed c failing ≡ is_among c (failing_behind ahead peers.failing)
  pub new : OpenNew (opened_in log) left
  pub over : 0 < ends → left ≡ []
  -- each event is of a line
  pub few : events_in log + length left ≤ length lines
