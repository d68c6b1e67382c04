-- What a run of the loop over any machine leaves in the wire and in the sink; no public clause cites this.
use Rattle.std.specs.Prelude.{◌≡◌, ◌≢◌, ◌≤◌, ℕ, List}
use Rattle.ads_outside.specs.declared.end.End.{End}
use Rattle.ads_outside.specs.declared.end.End.TheVariants as end
use Rattle.ads_outside.specs.declared.moves.Move.{Move}
use Rattle.ads_outside.specs.SinkState.{SinkState}
use Rattle.ads_outside.specs.WireState.{WireHistory, history_after}
use Rattle.ads_served.specs.Standing.{Standing}
use Rattle.serve_loop.specs.Leads.{events_in}
use Rattle.serve_loop.specs.TurnTaken.{StandsOver, AreTurnsOf, IsCountOf}
use Rattle.spec_machine.specs.Delivery.{AreOffers}
use Rattle.spec_machine.specs.MachineState.{MachineState}
use Rattle.spec_machine.specs.Moves.{EventStep, state_after}
use Rattle.run_tasks.specs.declared.status.Status.{Status}
use Rattle.run_tasks.specs.Service.{ending_with}
use Rattle.plant_commands.specs.Serving.{EndsBehind, AddsToLog, AddsToStreams, PrintsAt}

-- what is served stands for x, whatever numbers a wire has opened
abbrev pub StandsAnew : {W C : Type 0} → (Standing W C → Type 0) → Standing W C → Type 0
StandsAnew serves x = (opened : List ℕ) → StandsOver serves opened x

-- a line is that of the counts of whatever is stood for
abbrev pub TellsOf : {W C : Type 0} → (Standing W C → Type 0) → (MachineState W C → List ℕ) → List ℕ → Type 0
TellsOf {W} {C} serves counts line = (x : Standing W C) → serves x → line ≡ counts x.running.state

-- each line that a machine tells is that of the counts of whatever it stands for
abbrev pub TellsCounts : {M W C : Type 0} → (M → List ℕ → Type 0) → (M → Standing W C → Type 0) → (MachineState W C → List ℕ) → Type 0
TellsCounts {M} tells serves counts = (machine : M) (line : List ℕ) → tells machine line → TellsOf (serves machine) counts line

-- from here on the wire made these moves, and ended so; and they are moves of the machine
pub record Moves {W C : Type 0} (step : EventStep W C) (x : Standing W C) (limit : ℕ) (ended : End) (moves : List Move)
    (old new : WireHistory) : Type 0 where
  pub grown : EndsBehind ended (history_after old moves) new
  pub logged : AddsToLog old.log new.log moves
  pub streamed : AddsToStreams old.streams new.streams moves
  pub count : IsCountOf ended (events_in moves) limit
  pub most : events_in moves ≤ limit
  pub turns : ended ≢ end.Memory → AreTurnsOf step x.running moves
  pub offers : AreOffers step x.running.state moves

-- the wire made some moves, and the counts of the state that they come to were printed
pub record RunsMachine {W C : Type 0} (step : EventStep W C) (counts : MachineState W C → List ℕ) (x : Standing W C)
    (limit : ℕ) (s : Status) (out out_new : SinkState) (old new : WireHistory) : Type 0 where
  pub ended : End
  pub moves : List Move
  pub wire : Moves step x limit ended moves old new
  pub prints : PrintsAt ended (ending_with (counts (state_after step x.running.state moves)) ended) s out out_new
