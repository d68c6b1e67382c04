-- What is shown to what stands beside a loop: behind each turn with a tick the body of what is served, and how far the wire is.
use Rattle.std.specs.Prelude.{◌≡◌, ℕ, List, [], ◌∷◌, ◌++◌}
use Rattle.ads_outside.specs.declared.event.Event.{Event}
use Rattle.ads_outside.specs.declared.event.Event.TheVariants as event
use Rattle.ads_outside.specs.WireState.{WireHistory, history_after}
use Rattle.spec_machine.specs.MachineState.{MachineState}
use Rattle.spec_machine.specs.Moves.{EventStep, state_after}
use Rattle.spec_machine.specs.Turns.{LogTurn, moves_of_turn}
use Rattle.ads_served.specs.Standing.{Standing}

-- a body that is shown, and what the wire had given and taken by then
pub record Look : Type 0 where
  pub body : List ℕ
  pub wire : WireHistory

abbrev pub look_at : List ℕ → WireHistory → Look
look_at body wire = record { body = body; wire = wire }

-- what is shown behind a turn with this event
abbrev pub looks_at_event : Event → Look → List Look
looks_at_event (event.Opened c) look = []
looks_at_event (event.Piece c bytes) look = []
looks_at_event (event.Closed c) look = []
looks_at_event (event.Tick t) look = look ∷ []
looks_at_event (event.Reload bytes) look = []
looks_at_event (event.Writable c) look = []

-- what is shown behind turns, one after another
unfoldable pub looks_of_turns : {W C : Type 0} → (W → List ℕ) → EventStep W C → MachineState W C → WireHistory → List LogTurn → List Look
looks_of_turns body_of step s h [] = []
looks_of_turns body_of step s h (t ∷ ts) =
    looks_at_event t.event (look_at (body_of (state_after step s (moves_of_turn t)).world) (history_after h (moves_of_turn t)))
    ++ looks_of_turns body_of step (state_after step s (moves_of_turn t)) (history_after h (moves_of_turn t)) ts

-- whatever is served has this body
abbrev pub IsBodyOf : {W C : Type 0} → (W → List ℕ) → (Standing W C → Type 0) → List ℕ → Type 0
IsBodyOf {W} {C} body_of serves body = (x : Standing W C) → serves x → body ≡ body_of x.running.state.world

-- one look more, whatever is served, and what is kept then
pub record SeesMore {W C K : Type 0} (body_of : W → List ℕ) (serves : Standing W C → Type 0) (wire : WireHistory) (Old : List Look → Type 0)
    (New : K → List Look → Type 0) : Type 0 where
  pub more : K
  pub sees : (looks : List Look) (x : Standing W C) → Old looks → serves x
      → New more (looks ++ look_at (body_of x.running.state.world) wire ∷ [])
