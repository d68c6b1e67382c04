-- What calls over a wire lead to: the moves that the wire logged, and what is served then.
use Rattle.std.specs.Prelude.{◌≡◌, ℕ, ◌+◌, List, [], ◌∷◌}
use Rattle.ads_outside.specs.declared.moves.Move.{Move}
use Rattle.ads_outside.specs.declared.moves.Move.TheVariants as move
use Rattle.ads_outside.specs.WireState.{WireHistory, history_after}
use Rattle.spec_machine.specs.Delivery.{AreOffers}
use Rattle.spec_machine.specs.Moves.{EventStep}
use Rattle.spec_machine.specs.Running.{Running}
use Rattle.ads_served.specs.Standing.{Standing, Noting, standing_after_all}

-- how many events some moves have
abbrev pub events_in : List Move → ℕ
events_in [] = 0
events_in (move.Event e ∷ ms) = events_in ms + 1
events_in (move.Took c offered bytes ∷ ms) = events_in ms
events_in (move.Lost c ∷ ms) = events_in ms
events_in (move.Shut c ∷ ms) = events_in ms

-- The wire's history grew by some moves, with so many events: its log and its streams, where they are told. Whatever was served
-- before, its standing after these moves is served after them, and the moves are of a kind.
pub record Leads {W C : Type 0} (step : EventStep W C) (noted : Noting W C)
    (old_serves new_serves : Standing W C → Type 0) (old new : WireHistory) (count : ℕ)
    (Are : Running W C → List Move → Type 0) : Type 0 where
  pub moves : List Move
  pub logged : new ≡ history_after old moves
  pub events : events_in moves ≡ count
  pub stands : (x : Standing W C) → old_serves x
      → new_serves (standing_after_all step noted x moves)
  pub are : (x : Standing W C) → old_serves x → Are x.running moves

-- nothing is promised of what is served
abbrev pub serves_any : {W C : Type 0} → Standing W C → Type 0
serves_any x = Unit {0}

-- The moves were logged and are offers, whatever became of what is served.
abbrev pub Breaks : {W C : Type 0} → EventStep W C → Noting W C → (Standing W C → Type 0) → WireHistory
    → WireHistory → ℕ → Type 0
Breaks step noted old_serves old new count =
    Leads step noted old_serves serves_any old new count (λ x ms. AreOffers step x.state ms)
