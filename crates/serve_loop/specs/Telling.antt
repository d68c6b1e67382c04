-- What was told of the events of a run: what each came to in the state before it, in order.
use Rattle.std.specs.Prelude.{◌≡◌, ◌⊎◌, ℕ, List, [], ◌∷◌, ◌++◌}
use Rattle.ads_outside.specs.declared.end.End.TheVariants as end
use Rattle.ads_outside.specs.declared.event.Event.{Event}
use Rattle.ads_outside.specs.declared.moves.Move.{Move}
use Rattle.ads_outside.specs.declared.moves.Move.TheVariants as move
use Rattle.ads_outside.specs.WireAnswers.{Stops}
use Rattle.ads_outside.specs.WireState.{WireState, WireHistory, event_given, end_answered}
use Rattle.spec_machine.specs.MachineState.{MachineState}
use Rattle.spec_machine.specs.Moves.{EventStep, state_after_move}
use Rattle.ads_served.specs.Standing.{Standing, Noting}
use Rattle.serve_loop.specs.declared.beside_loop.Turned.{Turned}
use Rattle.serve_loop.specs.declared.beside_loop.Turned.TheVariants as turned
use Rattle.serve_loop.specs.declared.loop_end.LoopEnd.{LoopEnd}
use Rattle.serve_loop.specs.declared.loop_end.LoopEnd.TheVariants as loop
use Rattle.serve_loop.specs.declared.turn_end.Turn.{Turn}
use Rattle.serve_loop.specs.declared.turn_end.Turn.TheVariants as turn
use Rattle.serve_loop.specs.Leads.{Leads, serves_any}
use Rattle.serve_loop.specs.TurnTaken.{StandsOver}

-- what an event comes to in a state
abbrev pub Coming : (W C Came : Type 0) → Type 1
Coming W C Came = MachineState W C → Event → Came → Type 0

-- these are what the events of moves came to, one after another
unfoldable pub CameTo : {W C Came : Type 0} → Coming W C Came → EventStep W C → MachineState W C → List Move → List Came → Type 0
CameTo comes_to step s [] cames = cames ≡ []
CameTo comes_to step s (move.Event e ∷ ms) [] = ⊥
CameTo comes_to step s (move.Event e ∷ ms) (came ∷ cames) = comes_to s e came × CameTo comes_to step (step s e) ms cames
CameTo comes_to step s (move.Took c offered bytes ∷ ms) cames =
    CameTo comes_to step (state_after_move step s (move.Took c offered bytes)) ms cames
CameTo comes_to step s (move.Lost c ∷ ms) cames = CameTo comes_to step (state_after_move step s (move.Lost c)) ms cames
CameTo comes_to step s (move.Shut c ∷ ms) cames = CameTo comes_to step (state_after_move step s (move.Shut c)) ms cames

-- behind what was told before, these were told
abbrev pub Adds : {Came : Type 0} → (List Came → Type 0) → (List Came → Type 0) → List Came → Type 0
Adds {Came} Old New cames = (before : List Came) → Old before → New (before ++ cames)

-- nothing was told
abbrev pub StaysTold : {Came : Type 0} → (List Came → Type 0) → (List Came → Type 0) → Type 0
StaysTold {Came} Old New = (before : List Came) → Old before → New before

-- so many events were given, and it was told what each came to: that, and nothing else
pub record Told {W C Came : Type 0} (comes_to : Coming W C Came) (step : EventStep W C) (noted : Noting W C)
    (old_serves new_serves : Standing W C → Type 0) (old new : WireHistory) (count : ℕ) (Old New : List Came → Type 0) : Type 0 where
  pub cames : List Came
  pub leads : Leads step noted old_serves new_serves old new count (λ x ms. CameTo comes_to step x.state ms cames)
  pub told : Adds Old New cames

-- memory was wanting: at most one event more was given, of which nothing was told
abbrev pub IsUntold : WireHistory → WireHistory → Type 0
IsUntold old new = (new ≡ old) ⊎ ((e : Event) × (new ≡ event_given e old))

-- what came of the wire behind the events of which it was told what they came to
abbrev pub Behind : LoopEnd → WireState → WireState → WireHistory → Type 0
Behind (loop.Ended end.Done) old new last = new.history ≡ end_answered last
Behind (loop.Ended end.Budget) old new last = new.history ≡ last
Behind (loop.Ended end.LinkFault) old new last = Stops old new last
Behind (loop.Ended end.Memory) old new last = IsUntold last new.history
Behind loop.Stopped old new last = new.history ≡ last

-- what was told in a whole run
pub record TellsLoop {W C Came : Type 0} (ended : LoopEnd) (comes_to : Coming W C Came) (step : EventStep W C) (noted : Noting W C)
    (old_serves : Standing W C → Type 0) (old new : WireState) (Old New : List Came → Type 0) : Type 0 where
  pub last : WireHistory
  pub count : ℕ
  pub tells : Told comes_to step noted (StandsOver old_serves old.history.opened) serves_any old.history last count Old New
  pub behind : Behind ended old new last

-- Of one turn; no public clause cites what follows.

-- an event was taken, and it was told what it came to
pub record Hears {W C Came : Type 0} (comes_to : Coming W C Came) (old_serves : Standing W C → Type 0) (e : Event)
    (Old New : List Came → Type 0) : Type 0 where
  pub came : Came
  pub is : (x : Standing W C) → old_serves x → comes_to x.running.state e came
  pub told : Adds Old New (came ∷ [])

-- memory was wanting before anything was told, or behind it
abbrev pub HearsOrNot : {W C Came : Type 0} → Coming W C Came → (Standing W C → Type 0) → Event → WireHistory → WireHistory
    → (List Came → Type 0) → (List Came → Type 0) → Type 0
HearsOrNot comes_to old_serves e old new Old New = ((new ≡ old) × StaysTold Old New) ⊎ Hears comes_to old_serves e Old New

-- memory was wanting in a turn
pub record TellsBroken {W C Came : Type 0} (comes_to : Coming W C Came) (step : EventStep W C) (noted : Noting W C)
    (old_serves : Standing W C → Type 0) (old new : WireHistory) (Old New : List Came → Type 0) : Type 0 where
  pub last : WireHistory
  pub count : ℕ
  pub tells : Told comes_to step noted (StandsOver old_serves old.opened) serves_any old last count Old New
  pub untold : IsUntold last new

-- one event was given, and it was told what it came to
abbrev pub TellsEvent : {W C Came : Type 0} → Coming W C Came → EventStep W C → Noting W C → (Standing W C → Type 0)
    → (Standing W C → Type 0) → WireHistory → WireHistory → (List Came → Type 0) → (List Came → Type 0) → Type 0
TellsEvent comes_to step noted old_serves new_serves old new Old New =
    Told comes_to step noted (StandsOver old_serves old.opened) (StandsOver new_serves new.opened) old new 1 Old New

abbrev pub TellsTurn : {W C Came : Type 0} → Turn → Coming W C Came → EventStep W C → Noting W C → (Standing W C → Type 0)
    → (Standing W C → Type 0) → WireHistory → WireHistory → (List Came → Type 0) → (List Came → Type 0) → Type 0
TellsTurn turn.Tick comes_to step noted old_serves new_serves old new Old New =
    TellsEvent comes_to step noted old_serves new_serves old new Old New
TellsTurn turn.Other comes_to step noted old_serves new_serves old new Old New =
    TellsEvent comes_to step noted old_serves new_serves old new Old New
TellsTurn turn.End comes_to step noted old_serves new_serves old new Old New = StaysTold Old New
TellsTurn turn.LinkFault comes_to step noted old_serves new_serves old new Old New = StaysTold Old New
TellsTurn turn.Memory comes_to step noted old_serves new_serves old new Old New =
    TellsBroken comes_to step noted old_serves old new Old New

abbrev pub TellsTurned : {W C Came : Type 0} → Turned → Coming W C Came → EventStep W C → Noting W C → (Standing W C → Type 0)
    → (Standing W C → Type 0) → WireHistory → WireHistory → (List Came → Type 0) → (List Came → Type 0) → Type 0
TellsTurned turned.On comes_to step noted old_serves new_serves old new Old New =
    TellsEvent comes_to step noted old_serves new_serves old new Old New
TellsTurned turned.Stopped comes_to step noted old_serves new_serves old new Old New =
    TellsEvent comes_to step noted old_serves new_serves old new Old New
TellsTurned turned.End comes_to step noted old_serves new_serves old new Old New = StaysTold Old New
TellsTurned turned.LinkFault comes_to step noted old_serves new_serves old new Old New = StaysTold Old New
TellsTurned turned.Memory comes_to step noted old_serves new_serves old new Old New =
    TellsBroken comes_to step noted old_serves old new Old New
