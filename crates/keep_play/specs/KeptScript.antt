-- The play of a script on a machine whose world holds a body text, over a store. No public clause cites it.
use Rattle.std.specs.Prelude.{◌≡◌, ℕ, List, length, true, false, Option, Some}
use Rattle.ads_outside.specs.declared.moves.Move.{Move}
use Rattle.spec_machine.specs.MachineState.{MachineState}
use Rattle.spec_machine.specs.Moves.{EventStep}
use Rattle.spec_machine.specs.Play.{play_of}
use Rattle.spec_machine.specs.ScriptLine.{ScriptLine}
use Rattle.ads_served.specs.Standing.{Standing, Noting}
use Rattle.spec_store.specs.Slots as slots
use Rattle.spec_store.specs.Runs.{standing_after_all}
use Rattle.replay_script.specs.Playing.{IsUnused, IsPlay}
use Rattle.keep_loop.specs.Bodies.{BodyOf, bodies_of_run, saves_in, is_any_over}
use Rattle.keep_loop.specs.Keeping.{FileStandsFor}
use Rattle.keep_play.specs.declared.played.Played.{Played}
use Rattle.keep_play.specs.declared.played.Played.TheVariants as played

-- the saves of a script's play on a machine, where this body stood
unfoldable pub saves_of_script : {W C : Type 0} → BodyOf W → EventStep W C → MachineState W C → List ScriptLine
    → Option (List ℕ) → List (List ℕ)
saves_of_script body_of step s lines stood = saves_in stood (bodies_of_run body_of step s (play_of step s lines))

-- something is served that was never used
pub record ServesUnused {W C : Type 0} (serves : Standing W C → Type 0) : Type 0 where
  pub standing : Standing W C
  pub stands : serves standing
  pub unused : IsUnused standing

-- where the disk told its file: it stands for what stands after these saves, and nothing is pending
abbrev pub StandsAfter : {D : Type 0} → (D → Option (List ℕ)) → (D → List ℕ → Type 0) → D → D → Option slots.Standing
    → List (List ℕ) → Type 0
StandsAfter contents may_leave old new standing saves = (file : List ℕ) → contents old ≡ Some file
    → FileStandsFor contents may_leave new (standing_after_all standing saves)

-- the whole script was played, with these saves, of which none is over the limit
pub record IsWholePlay {W C : Type 0} (step : EventStep W C) (noted : Noting W C) (serves : Standing W C → Type 0) (x : Standing W C)
    (lines : List ScriptLine) (log : List Move) (count : ℕ) (standing : Option slots.Standing) (saves : List (List ℕ))
    (Stands : List (List ℕ) → Type 0) (Marked : Type 0) : Type 0 where
  pub play : IsPlay step noted serves x lines log
  pub counted : count ≡ length saves
  pub within : is_any_over standing saves ≡ false
  pub stands : Stands saves
  pub marked : Marked

-- how the play of a script ends that has these saves
abbrev pub EndsPlay : {W C : Type 0} → Played → EventStep W C → Noting W C → (Standing W C → Type 0) → Standing W C
    → List ScriptLine → Option slots.Standing → List (List ℕ) → (List (List ℕ) → Type 0) → (Marked : Type 0) → Type 0
EndsPlay (played.Done log count) step noted serves x lines standing saves Stands Marked =
    IsWholePlay step noted serves x lines log count standing saves Stands Marked
EndsPlay played.StoreFault step noted serves x lines standing saves Stands Marked = Unit {0}
EndsPlay played.StoreLimit step noted serves x lines standing saves Stands Marked = is_any_over standing saves ≡ true
