-- The saves among the bodies of all moves, with that of the last body.
use Rattle.std.proofs.Common.{◌≡◌, ℕ, List, [], ◌∷◌, ◌++◌, sym, ap, ◌∙◌}
use Rattle.std.specs.Prelude.{Option}
use Rattle.ads_outside.specs.WireState.{WireHistory}
use Rattle.spec_machine.specs.MachineState.{MachineState}
use Rattle.spec_machine.specs.Moves.{EventStep}
use Rattle.ads_served.specs.Standing.{Standing, Noting, standing_after_all}
use Rattle.serve_loop.specs.TurnTaken.{StandsOver}
use Rattle.keep_loop.specs.Bodies.{BodyOf, bodies_looked_at, bodies_to_end, saves_in}
use Rattle.keep_loop.specs.Keeping.{BodiesOf, Keeps}
use Rattle.keep_loop.proofs.BodyLemmas.{state_played}
use Rattle.keep_loop.proofs.SaveLemmas.{last_of, saves-append}

-- the saves of more bodies, behind those of the first ones
pub saves_more : (stood : Option (List ℕ)) (saves bodies more_bodies more all : List (List ℕ)) → saves ≡ saves_in stood bodies
    → saves_in (last_of stood saves) more_bodies ≡ more → all ≡ bodies ++ more_bodies → saves ++ more ≡ saves_in stood all
saves_more stood saves bodies more_bodies more all are adds is =
    ap (λ l. saves ++ l) (sym adds)
    ∙ (ap (λ l. l ++ saves_in (last_of stood l) more_bodies) are ∙ (sym (saves-append bodies more_bodies stood) ∙ ap (saves_in stood) (sym is)))

module _ {W C : Type 0} (every : ℕ) (body_of : BodyOf W) (step : EventStep W C) (noted : Noting W C) where
  -- the saves among the bodies up to the end
  pub saves_to_end : (old_serves new_serves : Standing W C → Type 0) (stood : Option (List ℕ)) (old new : WireHistory) (count : ℕ) (saves more : List (List ℕ))
      → (keeps : Keeps step noted old_serves new_serves (bodies_looked_at every body_of step) stood old new count saves)
      → ((z : Standing W C) → StandsOver new_serves new.opened z → saves_in (last_of stood saves) (body_of z.running.state.world ∷ []) ≡ more)
      → (x : Standing W C) → StandsOver old_serves old.opened x
      → saves ++ more ≡ saves_in stood (bodies_to_end every body_of step x.running.state keeps.turns.moves)
  saves_to_end old_serves new_serves stood old new count saves more keeps adds x over =
      let ms = keeps.turns.moves in
      let y = standing_after_all step noted x ms in
      let first = bodies_looked_at every body_of step x.running.state ms in
      saves_more stood saves first (body_of y.running.state.world ∷ []) more
      (bodies_to_end every body_of step x.running.state ms) (keeps.are x over) (adds y (keeps.turns.stands x over))
      (ap (λ (s : MachineState W C). first ++ body_of s.world ∷ []) (sym (state_played step noted x ms)))

  -- the end
  pub keeps_last : (old_serves new_serves : Standing W C → Type 0) (stood : Option (List ℕ)) (old new : WireHistory) (count : ℕ) (saves more : List (List ℕ))
      → Keeps step noted old_serves new_serves (bodies_looked_at every body_of step) stood old new count saves
      → ((z : Standing W C) → StandsOver new_serves new.opened z → saves_in (last_of stood saves) (body_of z.running.state.world ∷ []) ≡ more)
      → Keeps step noted old_serves new_serves (bodies_to_end every body_of step) stood old new count (saves ++ more)
  keeps_last old_serves new_serves stood old new count saves more keeps adds = record {
    turns = keeps.turns;
    are = saves_to_end old_serves new_serves stood old new count saves more keeps adds;
  }

  -- what is served may be seen otherwise
  pub keeps_to : (old_serves mid_serves new_serves : Standing W C → Type 0) (bodies : BodiesOf W C)
      (stood : Option (List ℕ)) (old new : WireHistory) (count : ℕ) (saves : List (List ℕ))
      → ((y : Standing W C) → StandsOver mid_serves new.opened y → StandsOver new_serves new.opened y)
      → Keeps step noted old_serves mid_serves bodies stood old new count saves → Keeps step noted old_serves new_serves bodies stood old new count saves
  keeps_to old_serves mid_serves new_serves bodies stood old new count saves to keeps = record {
    turns = record {
      moves = keeps.turns.moves;
      logged = keeps.turns.logged;
      events = keeps.turns.events;
      stands = λ x over. to (standing_after_all step noted x keeps.turns.moves) (keeps.turns.stands x over);
      are = keeps.turns.are;
    };
    are = keeps.are;
  }
