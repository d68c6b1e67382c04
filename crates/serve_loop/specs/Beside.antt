-- What a loop leads to beside which something stands: its turns, and what was shown of them.
use Rattle.std.specs.Prelude.{◌≡◌, ℕ, ◌+◌, ◌<◌, ◌≤◌, List, ◌++◌}
use Rattle.std.specs.List.{All, flat_map}
use Rattle.ads_outside.specs.declared.end.End.TheVariants as end
use Rattle.ads_outside.specs.declared.event.Event.{Event}
use Rattle.ads_outside.specs.declared.moves.Move.{Move}
use Rattle.ads_outside.specs.WireAnswers.{Stops}
use Rattle.ads_outside.specs.WireState.{WireState, WireHistory, history_after, end_answered}
use Rattle.spec_machine.specs.Delivery.{AreOffers}
use Rattle.spec_machine.specs.Moves.{EventStep}
use Rattle.spec_machine.specs.Running.{Running}
use Rattle.spec_machine.specs.Turns.{LogTurn, moves_of_turn}
use Rattle.ads_served.specs.Standing.{Standing, Noting}
use Rattle.serve_loop.specs.declared.beside_loop.Turned.{Turned}
use Rattle.serve_loop.specs.declared.beside_loop.Turned.TheVariants as turned
use Rattle.serve_loop.specs.declared.loop_end.LoopEnd.{LoopEnd}
use Rattle.serve_loop.specs.declared.loop_end.LoopEnd.TheVariants as loop
use Rattle.serve_loop.specs.declared.turn_end.Turn.{Turn}
use Rattle.serve_loop.specs.declared.turn_end.Turn.TheVariants as turn
use Rattle.serve_loop.specs.Leads.{serves_any, events_in}
use Rattle.serve_loop.specs.Looks.{Look, look_at, looks_at_event, looks_of_turns}
use Rattle.serve_loop.specs.TurnTaken.{StandsOver, TakesTurns, TakesEvent, BreaksTurn, Stays}

-- moves are turns one after another, and what was shown of them
pub record ShownOf {W C : Type 0} (body_of : W → List ℕ) (step : EventStep W C) (x : Running W C) (old : WireHistory)
    (ms : List Move) (Seen : List Look → Type 0) : Type 0 where
  pub turns : List LogTurn
  pub are : ms ≡ flat_map moves_of_turn turns
  -- each with one event
  pub one : All (λ t. events_in (moves_of_turn t) ≡ 1) turns
  pub seen : Seen (looks_of_turns body_of step x.state old turns)

-- so many turns were taken, what was shown of them, and what was kept of that, whatever was served
pub record ShowsTurns {W C K : Type 0} (body_of : W → List ℕ) (step : EventStep W C) (noted : Noting W C)
    (old_serves new_serves : Standing W C → Type 0) (old new : WireHistory) (count : ℕ) (Seen : K → List Look → Type 0) : Type 0 where
  pub turns : TakesTurns step noted old_serves new_serves old new count
  pub kept : K
  pub shown : (x : Standing W C) → StandsOver old_serves old.opened x → ShownOf body_of step x.running old turns.moves (Seen kept)

-- fewer turns than were allowed were taken, and then this came of the wire
pub record ShowsBefore {W C K : Type 0} (body_of : W → List ℕ) (step : EventStep W C) (noted : Noting W C)
    (old_serves new_serves : Standing W C → Type 0) (old : WireHistory) (limit : ℕ) (Then : WireHistory → Type 0)
    (Seen : K → List Look → Type 0) : Type 0 where
  pub last : WireHistory
  pub count : ℕ
  pub fewer : count < limit
  pub shows : ShowsTurns body_of step noted old_serves new_serves old last count Seen
  pub then_ : Then last

-- memory was wanting behind whole turns: the moves that were logged behind them are offers, and at most the first of them is an event
pub record ShowsBroken {W C K : Type 0} (body_of : W → List ℕ) (step : EventStep W C) (noted : Noting W C)
    (old_serves : Standing W C → Type 0) (old new : WireHistory) (limit : ℕ) (Seen : K → List Look → Type 0) : Type 0 where
  pub last : WireHistory
  pub count : ℕ
  pub shows : ShowsTurns body_of step noted old_serves serves_any old last count Seen
  pub later : List Move
  pub logged : new ≡ history_after last later
  pub few : events_in later ≤ 1
  pub most : count + events_in later ≤ limit
  pub offers : (x : Standing W C) → StandsOver old_serves old.opened x → AreOffers step x.running.state (shows.turns.moves ++ later)

-- what is shown behind an event, whatever is served, and what is kept then
pub record ShowsEvent {W C K : Type 0} (body_of : W → List ℕ) (serves : Standing W C → Type 0) (wire : WireHistory) (event : Event)
    (Old : List Look → Type 0) (New : K → List Look → Type 0) : Type 0 where
  pub more : K
  pub sees : (looks : List Look) (y : Standing W C) → Old looks → serves y
      → New more (looks ++ looks_at_event event (look_at (body_of y.running.state.world) wire))

-- a turn, and what it shows where something was seen before it
pub record ShowsTurn {W C A O K : Type 0} (body_of : W → List ℕ) (step : EventStep W C) (noted : Noting W C)
    (old_serves new_serves : Standing W C → Type 0) (old new : WireHistory) (Old New : A → O → K → List Look → Type 0) : Type 0 where
  pub tells : Turn
  pub takes : TakesEvent step noted old_serves new_serves old new tells
  pub shows : (first : A) (start : O) (kept : K)
      → ShowsEvent body_of new_serves new takes.event (Old first start kept) (New first start)

-- nothing was shown
abbrev pub StaysSeen : {A O K : Type 0} → (A → O → K → List Look → Type 0) → (A → O → K → List Look → Type 0) → Type 0
StaysSeen {A} {O} {K} Old New = (first : A) (start : O) (kept : K) (looks : List Look) → Old first start kept looks → New first start kept looks

-- a turn with a tick, behind which what stood so beside the loop ended it
pub record StopsTurn {W C A O K : Type 0} (step : EventStep W C) (noted : Noting W C) (old_serves new_serves : Standing W C → Type 0)
    (old new : WireHistory) (Old : A → O → K → List Look → Type 0) (Mid : A → A → O → K → List Look → Type 0) (Stops : A → Type 0)
    : Type 0 where
  pub takes : TakesEvent step noted old_serves new_serves old new turn.Tick
  pub beside : A
  pub stays : StaysSeen Old (Mid beside)
  pub stops : Stops beside

abbrev pub AfterTurnBeside : {W C A O K : Type 0} → Turned → (W → List ℕ) → EventStep W C → Noting W C → (Standing W C → Type 0)
    → (Standing W C → Type 0) → WireState → WireState → (A → O → K → List Look → Type 0) → (A → O → K → List Look → Type 0) → Type 0
AfterTurnBeside turned.On body_of step noted old_serves new_serves old new Old New =
    ShowsTurn body_of step noted old_serves new_serves old.history new.history Old New
AfterTurnBeside turned.Stopped body_of step noted old_serves new_serves old new Old New = Unit {0}
AfterTurnBeside turned.End body_of step noted old_serves new_serves old new Old New =
    (new.history ≡ end_answered old.history) × Stays old_serves new_serves × StaysSeen Old New
AfterTurnBeside turned.LinkFault body_of step noted old_serves new_serves old new Old New =
    Stops old new old.history × Stays old_serves new_serves × StaysSeen Old New
AfterTurnBeside turned.Memory body_of step noted old_serves new_serves old new Old New =
    BreaksTurn step noted old_serves old.history new.history 1 × StaysSeen Old New

-- what stands beside the loop ended it behind a turn with a tick: what was served then, how it stood beside it before, and the turns up to there
pub record ShowsStopped {W C A O K M : Type 0} (body_of : W → List ℕ) (step : EventStep W C) (noted : Noting W C)
    (serves : M → Standing W C → Type 0) (old_serves new_serves : Standing W C → Type 0) (old new : WireHistory) (limit : ℕ)
    (Seen : A → O → K → List Look → Type 0) (Stops : A → O → Type 0) : Type 0 where
  pub served : M
  pub beside : A
  pub outside : O
  pub last : WireHistory
  pub count : ℕ
  pub fewer : count < limit
  pub shows : ShowsTurns body_of step noted old_serves (serves served) old last count (Seen beside outside)
  pub takes : TakesEvent step noted (serves served) new_serves last new turn.Tick
  pub stops : Stops beside outside

abbrev pub AfterLoop : {W C K : Type 0} → LoopEnd → (W → List ℕ) → EventStep W C → Noting W C → (Standing W C → Type 0)
    → (Standing W C → Type 0) → WireState → WireState → ℕ → (K → List Look → Type 0) → Type 0
AfterLoop (loop.Ended end.Done) body_of step noted old_serves new_serves old new limit Seen =
    ShowsBefore body_of step noted old_serves new_serves old.history limit (λ last. new.history ≡ end_answered last) Seen
AfterLoop (loop.Ended end.Budget) body_of step noted old_serves new_serves old new limit Seen =
    ShowsTurns body_of step noted old_serves new_serves old.history new.history limit Seen
AfterLoop (loop.Ended end.LinkFault) body_of step noted old_serves new_serves old new limit Seen =
    ShowsBefore body_of step noted old_serves new_serves old.history limit (λ last. Stops old new last) Seen
AfterLoop (loop.Ended end.Memory) body_of step noted old_serves new_serves old new limit Seen =
    ShowsBroken body_of step noted old_serves old.history new.history limit Seen
AfterLoop loop.Stopped body_of step noted old_serves new_serves old new limit Seen = Unit {0}
