-- The bodies of a run, over any machine whose world holds a body text, and the saves among them.
-- This project's own choice.
use Rattle.std.specs.Prelude.{ℕ, zero, suc, ◌-◌, List, [], ◌∷◌, ◌++◌, Bool, false, ◌||◌, if◌then◌else◌, Option, Some, None, bytes_eq}
use Rattle.ads_outside.specs.declared.event.Event.{Event}
use Rattle.ads_outside.specs.declared.event.Event.TheVariants as event
use Rattle.ads_outside.specs.declared.moves.Move.{Move}
use Rattle.ads_outside.specs.declared.moves.Move.TheVariants as move
use Rattle.spec_machine.specs.MachineState.{MachineState}
use Rattle.spec_machine.specs.Moves.{EventStep, state_after_move, state_after}
use Rattle.spec_store.specs.Slots.{Standing}
use Rattle.spec_store.specs.Saves.{is_over_limit, standing_after}

-- the body text of what a world holds
abbrev pub BodyOf : (W : Type 0) → Type 0
BodyOf W = W → List ℕ

-- what is looked at after an event: the body after a tick, and nothing after any other
abbrev pub bodies_at_event : Event → List ℕ → List (List ℕ)
bodies_at_event (event.Opened c) body = []
bodies_at_event (event.Piece c bytes) body = []
bodies_at_event (event.Closed c) body = []
bodies_at_event (event.Tick t) body = body ∷ []
bodies_at_event (event.Reload bytes) body = []
bodies_at_event (event.Writable c) body = []

abbrev pub bodies_at_move : Move → List ℕ → List (List ℕ)
bodies_at_move (move.Event e) body = bodies_at_event e body
bodies_at_move (move.Took c offered bytes) body = []
bodies_at_move (move.Lost c) body = []
bodies_at_move (move.Shut c) body = []

-- the body after each tick of a log, in order
unfoldable pub bodies_at_ticks : {W C : Type 0} → BodyOf W → EventStep W C → MachineState W C → List Move → List (List ℕ)
bodies_at_ticks body_of step s [] = []
bodies_at_ticks body_of step s (m ∷ ms) =
    bodies_at_move m (body_of (state_after_move step s m).world)
    ++ bodies_at_ticks body_of step (state_after_move step s m) ms

-- of the bodies after the ticks each so manieth, the first of them behind so many more
unfoldable pub paced : ℕ → ℕ → List (List ℕ) → List (List ℕ)
paced every left [] = []
paced every zero (body ∷ bodies) = body ∷ paced every (every - 1) bodies
paced every (suc left) (body ∷ bodies) = paced every left bodies

-- the bodies of a log that are looked at: that after each so manieth tick, in order
abbrev pub bodies_looked_at : {W C : Type 0} → ℕ → BodyOf W → EventStep W C → MachineState W C → List Move → List (List ℕ)
bodies_looked_at every body_of step s log = paced every (every - 1) (bodies_at_ticks body_of step s log)

-- these, and the body at the log's end
abbrev pub bodies_to_end : {W C : Type 0} → ℕ → BodyOf W → EventStep W C → MachineState W C → List Move → List (List ℕ)
bodies_to_end every body_of step s log =
    bodies_looked_at every body_of step s log ++ body_of (state_after step s log).world ∷ []

-- the body after each tick of a log, and that at its end
abbrev pub bodies_of_run : {W C : Type 0} → BodyOf W → EventStep W C → MachineState W C → List Move → List (List ℕ)
bodies_of_run body_of step s log =
    bodies_at_ticks body_of step s log ++ body_of (state_after step s log).world ∷ []

-- whether this body stands already
abbrev pub is_standing : Option (List ℕ) → List ℕ → Bool
is_standing None body = false
is_standing (Some stood) body = bytes_eq stood body

-- the bodies that differ from the one before, the first of them from what stood, if anything did
unfoldable pub saves_in : Option (List ℕ) → List (List ℕ) → List (List ℕ)
saves_in stood [] = []
saves_in stood (body ∷ bodies) =
    if is_standing stood body then saves_in stood bodies else body ∷ saves_in (Some body) bodies

-- whether one of these saves is refused by its limit, where all before it are done
unfoldable pub is_any_over : Option Standing → List (List ℕ) → Bool
is_any_over standing [] = false
is_any_over standing (body ∷ bodies) =
    is_over_limit standing body || is_any_over (Some (standing_after standing body)) bodies
