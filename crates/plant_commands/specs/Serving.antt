-- What a service over a wire leaves in the wire and in the sink.
use Rattle.std.specs.Prelude.{◌≡◌, ◌⊎◌, ◌≤◌, List, ◌++◌, Option, Some, None, option_map}
use Rattle.ads_outside.specs.declared.end.End.{End}
use Rattle.ads_outside.specs.declared.end.End.TheVariants as end
use Rattle.ads_outside.specs.declared.listening.Listening.{Listening}
use Rattle.ads_outside.specs.declared.moves.Move.{Move}
use Rattle.ads_outside.specs.declared.put.Put.TheVariants as put
use Rattle.ads_outside.specs.Puts.{Puts}
use Rattle.ads_outside.specs.Rose.{Rose}
use Rattle.ads_outside.specs.SinkState.{SinkState, NeverFalls}
use Rattle.ads_outside.specs.Streams.{Streams}
use Rattle.ads_outside.specs.WireState.{WireHistory, history_after, end_answered, listened}
use Rattle.serve_loop.specs.Leads.{events_in}
use Rattle.serve_loop.specs.ToldStreams.{grown_by}
use Rattle.serve_loop.specs.TurnTaken.{IsCountOf}
use Rattle.spec_relay.specs.RelayPromises.{RelayKeepsPromisesAt}
use Rattle.run_tasks.specs.declared.status.Status.{Status}
use Rattle.run_tasks.specs.declared.status.Status.TheVariants as status
use Rattle.run_tasks.specs.Ending.{Ending, line_alone}
use Rattle.run_tasks.specs.Prints.{PutsMemoryLine, PutsPartAndMemoryLine, PrintsEnding}
use Rattle.plant_commands.specs.Promises.{KeepsPromisesAtIn}
use Rattle.run_tasks.specs.Service.{Service, ServedMachine, OfServer, OfRelay, listening_line, ending_after}

-- a start or a next event failed, behind this history
pub record StopsBehind (before new : WireHistory) : Type 0 where
  pub same : new ≡ record before { stops = new.stops }
  pub stopped : Rose before.stops new.stops

-- how the wire ended, behind this history
abbrev pub EndsBehind : End → WireHistory → WireHistory → Type 0
EndsBehind end.Done before new = new ≡ end_answered before
EndsBehind end.Budget before new = new ≡ before
EndsBehind end.LinkFault before new = StopsBehind before new
EndsBehind end.Memory before new = new ≡ before

-- where the log is told, these moves stand behind it
abbrev pub AddsToLog : Option (List Move) → Option (List Move) → List Move → Type 0
AddsToLog None new moves = Unit {0}
AddsToLog (Some log) new moves = new ≡ Some (log ++ moves)

-- where the streams are told, each connection took what it takes in these moves: no byte more, none less, none of another's
abbrev pub AddsToStreams : Option Streams → Option Streams → List Move → Type 0
AddsToStreams old new moves = new ≡ option_map (grown_by moves) old

-- what moves that ended so promise of a machine
abbrev pub MovesKeepPromises : End → ServedMachine → List Move → Type 0
MovesKeepPromises ended (OfServer profile d waves) moves = KeepsPromisesAtIn ended profile d waves moves
MovesKeepPromises ended (OfRelay d) moves = RelayKeepsPromisesAt ended d moves

-- from here on the wire made these moves, and ended so
pub record MakesMoves (service : Service) (ended : End) (moves : List Move) (old new : WireHistory) : Type 0 where
  pub grown : EndsBehind ended (history_after old moves) new
  pub logged : AddsToLog old.log new.log moves
  pub streamed : AddsToStreams old.streams new.streams moves
  -- how many of them are events
  pub count : IsCountOf ended (events_in moves) service.limit
  pub most : events_in moves ≤ service.limit
  -- what they promise
  pub promises : MovesKeepPromises ended service.machine moves

-- what is printed where the wire ended so; want of memory is told by its line alone
abbrev pub PrintsAt : End → Ending → Status → SinkState → SinkState → Type 0
PrintsAt end.Done ending s old new = PrintsEnding ending s old new
PrintsAt end.Budget ending s old new = PrintsEnding ending s old new
PrintsAt end.LinkFault ending s old new = PrintsEnding ending s old new
PrintsAt end.Memory ending s old new = (s ≡ status.Memory) × PutsMemoryLine old new

-- the wire made some moves, and what they come to was printed
pub record RunsService (service : Service) (s : Status) (out out_new : SinkState) (old new : WireHistory) : Type 0 where
  pub ended : End
  pub moves : List Move
  pub wire : MakesMoves service ended moves old new
  pub prints : PrintsAt ended (ending_after service moves ended) s out out_new

-- `listening` was put
pub record IsTold (out between : SinkState) : Type 0 where
  pub listening : Puts put.All out between listening_line
  pub later : NeverFalls out between

-- `listening` was put, and then the service ran
pub record TellsAndRuns (Runs : SinkState → Type 0) (out : SinkState) : Type 0 where
  pub between : SinkState
  pub told : IsTold out between
  pub runs : Runs between

-- `listening` was not put whole
abbrev pub CannotPut : Status → SinkState → SinkState → Type 0
CannotPut s out out_new =
    ((s ≡ status.WriteFault) × Puts put.Failed out out_new listening_line)
    ⊎ ((s ≡ status.Memory) × PutsPartAndMemoryLine listening_line out out_new)

-- and no event was taken
abbrev pub CannotTell : Status → SinkState → SinkState → WireHistory → WireHistory → Type 0
CannotTell s out out_new old new = (new ≡ old) × CannotPut s out out_new

-- the wire could not be started, and that is told; or memory was wanting, before it was or while it was
abbrev pub CannotStart : Listening → Status → SinkState → SinkState → WireHistory → WireHistory → Type 0
CannotStart start s out out_new old new =
    (StopsBehind (listened start old) new × PrintsEnding (line_alone status.LinkFault) s out out_new)
    ⊎ ((new ≡ old) × (s ≡ status.Memory) × PutsMemoryLine out out_new)

-- the wire is not started; or it is, and then not told
abbrev pub CannotRun : Listening → Status → SinkState → SinkState → WireHistory → WireHistory → Type 0
CannotRun start s out out_new old new = CannotStart start s out out_new old new ⊎ CannotTell s out out_new (listened start old) new

-- the wire was started, and that is told
pub record IsStarted (start : Listening) (out between : SinkState) (old started : WireHistory) : Type 0 where
  pub ready : started ≡ listened start old
  pub told : IsTold out between

-- the wire is not started; or it is, and then not told, or what follows runs from this sink and this history
abbrev pub EndsStarted : Listening → (SinkState → WireHistory → Type 0) → Status → SinkState → SinkState → WireHistory → WireHistory → Type 0
EndsStarted start Runs s out out_new old new =
    CannotStart start s out out_new old new
    ⊎ CannotTell s out out_new (listened start old) new
    ⊎ TellsAndRuns (λ between. Runs between (listened start old)) out

-- a service is not started; or it is, and then not told or run
abbrev pub EndsService : Service → Status → SinkState → SinkState → WireHistory → WireHistory → Type 0
EndsService service s out out_new old new =
    EndsStarted service.start (λ between started. RunsService service s between out_new started new) s out out_new old new
