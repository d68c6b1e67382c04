-- A log keeps the turns: each event is followed by the offers to each connection of the machine.
use Rattle.std.specs.Prelude.{◌≡◌, ◌⊎◌, ℕ, ◌≤◌, List, [], ◌∷◌, length, take, flat_map, true}
use Rattle.std.specs.Prelude.{false}
use Rattle.ads_outside.specs.declared.event.Event.{Event}
use Rattle.ads_outside.specs.declared.moves.Move.{Move}
use Rattle.ads_outside.specs.declared.moves.Move.TheVariants as move
use Rattle.spec_machine.specs.MachineState.{MachineState, present_numbers}
use Rattle.spec_machine.specs.Moves.{EventStep, state_after_move, state_after}
use Rattle.spec_machine.specs.Offers.{waiting_at, is_closing_at, blocked_after_move, blocked_after}
use Rattle.spec_machine.specs.Offers.{is_among}

-- an offer names the whole length of the first frame that waits, and what is taken begins it
abbrev pub IsOffer : List (List ℕ) → ℕ → List ℕ → Type 0
IsOffer [] offered bytes = ⊥
IsOffer (f ∷ fs) offered bytes =
    (offered ≡ length f) × (length bytes ≤ length f) × (bytes ≡ take (length bytes) f)

-- nothing more is offered: nothing waits, or the connection is blocked
abbrev pub IsServed : {W C : Type 0} → ℕ → List ℕ → MachineState W C → Type 0
IsServed c blocked s = (waiting_at c s ≡ []) ⊎ (is_among c blocked ≡ true)

-- something more is offered
abbrev pub IsOwed : {W C : Type 0} → ℕ → List ℕ → MachineState W C → Type 0
IsOwed c blocked s = ((waiting_at c s ≡ []) → ⊥) × (is_among c blocked ≡ false)

-- The moves of one connection after an event: offers until all is taken or it is blocked, or an
-- offer that loses it; then it is shut exactly where it is closing and not lost.
unfoldable pub Serves : {W C : Type 0} → EventStep W C → ℕ → List ℕ → MachineState W C → List Move
    → Type 0
Serves step c blocked s [] = IsServed c blocked s × (is_closing_at c s ≡ false)
Serves step c blocked s (move.Took n offered bytes ∷ ms) =
    (n ≡ c) × (is_among c blocked ≡ false) × IsOffer (waiting_at c s) offered bytes
    × Serves step c (blocked_after_move blocked (move.Took n offered bytes))
    (state_after_move step s (move.Took n offered bytes)) ms
Serves step c blocked s (move.Lost n ∷ ms) = (n ≡ c) × IsOwed c blocked s × (ms ≡ [])
Serves step c blocked s (move.Shut n ∷ ms) =
    (n ≡ c) × IsServed c blocked s × (is_closing_at c s ≡ true) × (ms ≡ [])
Serves step c blocked s (move.Event e ∷ ms) = ⊥

-- the moves of each connection, in the order of their opening
unfoldable pub ServesEach : {W C : Type 0} → EventStep W C → List ℕ → List ℕ → MachineState W C
    → List (List Move) → Type 0
ServesEach step [] blocked s [] = Unit {0}
ServesEach step (c ∷ cs) blocked s (ms ∷ mss) =
    Serves step c blocked s ms
    × ServesEach step cs (blocked_after blocked ms) (state_after step s ms) mss
ServesEach step cs blocked s mss = ⊥

-- an event, and the moves of each connection after it
pub record LogTurn : Type 0 where
  pub event : Event
  pub served : List (List Move)

abbrev pub moves_of_turn : LogTurn → List Move
moves_of_turn t = move.Event t.event ∷ flat_map (λ ms. ms) t.served

unfoldable pub AreTurns : {W C : Type 0} → EventStep W C → List ℕ → MachineState W C → List LogTurn
    → Type 0
AreTurns step blocked s [] = Unit {0}
AreTurns step blocked s (t ∷ ts) =
    ServesEach step (present_numbers (step s t.event))
    (blocked_after_move blocked (move.Event t.event)) (step s t.event) t.served
    × AreTurns step (blocked_after blocked (moves_of_turn t))
    (state_after step s (moves_of_turn t)) ts

pub record KeepsTurns {W C : Type 0}
    (step : EventStep W C) (s : MachineState W C) (log : List Move) : Type 0 where
  pub turns : List LogTurn
  pub whole : log ≡ flat_map moves_of_turn turns
  pub served : AreTurns step [] s turns
