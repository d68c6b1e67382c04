-- What one turn of the loop leads to, and what all turns do.
use Rattle.std.specs.Prelude.{◌≡◌, ℕ, zero, suc, ◌<◌, ◌≤◌, List}
use Rattle.std.specs.List.{flat_map}
use Rattle.ads_outside.specs.declared.end.End.{End}
use Rattle.ads_outside.specs.declared.end.End.TheVariants as end
use Rattle.ads_outside.specs.declared.event.Event.{Event}
use Rattle.ads_outside.specs.declared.event.Event.TheVariants as event
use Rattle.ads_outside.specs.declared.moves.Move.{Move}
use Rattle.ads_outside.specs.declared.moves.Move.TheVariants as move
use Rattle.ads_outside.specs.Rose.{raised}
use Rattle.ads_outside.specs.WireAnswers.{Stops}
use Rattle.ads_outside.specs.WireState.{WireState, WireHistory, end_answered}
use Rattle.spec_machine.specs.Delivery.{AreOffers}
use Rattle.spec_machine.specs.MachineState.{present_numbers}
use Rattle.spec_machine.specs.Moves.{EventStep}
use Rattle.spec_machine.specs.Offers.{blocked_after_move}
use Rattle.spec_machine.specs.Running.{Running, OpensNew}
use Rattle.spec_machine.specs.Turns.{LogTurn, moves_of_turn, ServesEach, AreTurns}
use Rattle.ads_served.specs.Opened.{HasNumbersIn}
use Rattle.ads_served.specs.Standing.{Standing, Noting, standing_after}
use Rattle.serve_loop.specs.declared.turn_end.Turn.{Turn}
use Rattle.serve_loop.specs.declared.turn_end.Turn.TheVariants as turn
use Rattle.serve_loop.specs.Leads.{Leads, Breaks}

-- what is served stands for x, and each connection of x has a number that the wire opened
pub record StandsOver {W C : Type 0} (serves : Standing W C → Type 0) (opened : List ℕ)
    (x : Standing W C) : Type 0 where
  pub stands : serves x
  pub numbers : HasNumbersIn opened x.running.state

-- it stands for something
pub record StandsForSome {W C : Type 0} (serves : Standing W C → Type 0) : Type 0 where
  pub standing : Standing W C
  pub stands : serves standing

-- what a new event makes of a standing that was served
pub record ComesBy {W C : Type 0} (step : EventStep W C) (noted : Noting W C)
    (serves_before : Standing W C → Type 0) (e : Event) (y : Standing W C) : Type 0 where
  pub before : Standing W C
  pub served : serves_before before
  pub opens_new : OpensNew before.running e
  pub is : y ≡ standing_after step noted before (move.Event e)

-- an event, and the moves of all connections that are there after it
pub record IsTurnOf {W C : Type 0} (step : EventStep W C) (e : Event) (x : Running W C)
    (ms : List Move) : Type 0 where
  pub served : List (List Move)
  pub are : ms ≡ moves_of_turn (record { event = e; served = served })
  pub each : ServesEach step (present_numbers (step x.state e))
      (blocked_after_move x.blocked (move.Event e)) (step x.state e) served
  pub offers : AreOffers step x.state ms

-- what is told of a turn with this event
abbrev pub turn_of_event : Event → Turn
turn_of_event (event.Opened c) = turn.Other
turn_of_event (event.Piece c bytes) = turn.Other
turn_of_event (event.Closed c) = turn.Other
turn_of_event (event.Tick t) = turn.Tick
turn_of_event (event.Reload bytes) = turn.Other
turn_of_event (event.Writable c) = turn.Other

-- one event was taken, and all connections are served
pub record TakesEvent {W C : Type 0} (step : EventStep W C) (noted : Noting W C)
    (old_serves new_serves : Standing W C → Type 0) (old new : WireHistory) (tells : Turn)
    : Type 0 where
  pub event : Event
  pub kind : tells ≡ turn_of_event event
  pub leads : Leads step noted (StandsOver old_serves old.opened) (StandsOver new_serves new.opened)
      old new 1 (IsTurnOf step event)

-- what is served stands for what it stood for
abbrev pub Stays : {W C : Type 0} → (Standing W C → Type 0) → (Standing W C → Type 0) → Type 0
Stays {W} {C} old_serves new_serves = (x : Standing W C) → old_serves x → new_serves x

-- memory was wanting: the moves that were logged are offers, and at most one is an event
pub record BreaksTurn {W C : Type 0} (step : EventStep W C) (noted : Noting W C)
    (old_serves : Standing W C → Type 0) (old new : WireHistory) (most : ℕ) : Type 0 where
  pub count : ℕ
  pub within : count ≤ most
  pub breaks : Breaks step noted (StandsOver old_serves old.opened) old new count

abbrev pub AfterTurn : {W C : Type 0} → Turn → EventStep W C → Noting W C → (Standing W C → Type 0)
    → (Standing W C → Type 0) → WireState → WireState → Type 0
AfterTurn turn.Tick step noted old_serves new_serves old new =
    TakesEvent step noted old_serves new_serves old.history new.history turn.Tick
AfterTurn turn.Other step noted old_serves new_serves old new =
    TakesEvent step noted old_serves new_serves old.history new.history turn.Other
AfterTurn turn.End step noted old_serves new_serves old new =
    (new.history ≡ end_answered old.history) × Stays old_serves new_serves
AfterTurn turn.LinkFault step noted old_serves new_serves old new =
    Stops old new old.history × Stays old_serves new_serves
AfterTurn turn.Memory step noted old_serves new_serves old new =
    BreaksTurn step noted old_serves old.history new.history 1

-- moves that keep the turns
pub record AreTurnsOf {W C : Type 0} (step : EventStep W C) (x : Running W C) (ms : List Move)
    : Type 0 where
  pub turns : List LogTurn
  pub are : ms ≡ flat_map moves_of_turn turns
  pub served : AreTurns step x.blocked x.state turns
  pub offers : AreOffers step x.state ms

-- so many turns were taken, up to this history of the wire
abbrev pub TakesTurns : {W C : Type 0} → EventStep W C → Noting W C → (Standing W C → Type 0)
    → (Standing W C → Type 0) → WireHistory → WireHistory → ℕ → Type 0
TakesTurns step noted old_serves new_serves old new count =
    Leads step noted (StandsOver old_serves old.opened) (StandsOver new_serves new.opened)
    old new count (AreTurnsOf step)

-- fewer turns than were allowed were taken, and then this came of the wire
pub record EndsBefore {W C : Type 0} (step : EventStep W C) (noted : Noting W C)
    (old_serves new_serves : Standing W C → Type 0) (old : WireHistory) (limit : ℕ)
    (Then : WireHistory → Type 0) : Type 0 where
  pub last : WireHistory
  pub count : ℕ
  pub fewer : count < limit
  pub turns : TakesTurns step noted old_serves new_serves old last count
  pub then_ : Then last

abbrev pub AfterServe : {W C : Type 0} → End → EventStep W C → Noting W C → (Standing W C → Type 0)
    → (Standing W C → Type 0) → WireState → WireState → ℕ → Type 0
AfterServe end.Done step noted old_serves new_serves old new limit =
    EndsBefore step noted old_serves new_serves old.history limit
    (λ last. new.history ≡ end_answered last)
AfterServe end.Budget step noted old_serves new_serves old new limit =
    TakesTurns step noted old_serves new_serves old.history new.history limit
AfterServe end.LinkFault step noted old_serves new_serves old new limit =
    EndsBefore step noted old_serves new_serves old.history limit (λ last. Stops old new last)
AfterServe end.Memory step noted old_serves new_serves old new limit =
    BreaksTurn step noted old_serves old.history new.history limit

-- a count that rose so often
unfoldable pub raised_by : ℕ → ℕ → ℕ
raised_by zero count = count
raised_by (suc n) count = raised_by n (raised count)

-- with how many events a run ends so
abbrev pub IsCountOf : End → ℕ → ℕ → Type 0
IsCountOf end.Done count limit = count < limit
IsCountOf end.Budget count limit = count ≡ limit
IsCountOf end.LinkFault count limit = count < limit
IsCountOf end.Memory count limit = Unit {0}

-- so many events were given, at most so many as were allowed
pub record GaveEvents (ended : End) (old new : WireHistory) (limit : ℕ) : Type 0 where
  pub count : ℕ
  pub most : count ≤ limit
  pub exactly : IsCountOf ended count limit
  pub events : new.events ≡ raised_by count old.events
