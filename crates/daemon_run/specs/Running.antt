-- A core that is served over a store. No public clause cites this.
use Rattle.std.specs.Prelude.{◌≡◌, ◌⊎◌, ◌<◌, ℕ, List, Option}
use Rattle.ads_outside.specs.declared.listening.Listening.{Listening}
use Rattle.ads_outside.specs.declared.moves.Move.{Move}
use Rattle.ads_outside.specs.Rose.{Rose}
use Rattle.ads_outside.specs.SinkState.{SinkState}
use Rattle.ads_outside.specs.WireState.{WireHistory, listened}
use Rattle.ads_served.specs.Standing.{Standing}
use Rattle.spec_machine.specs.Moves.{state_after}
use Rattle.spec_store.specs.Slots as slots
use Rattle.serve_loop.specs.TurnTaken.{StandsOver}
use Rattle.server_core.specs.Served.{World, Client, served_step}
use Rattle.keep_loop.specs.declared.kept_on.KeptOn.{KeptOn}
use Rattle.persist_store.specs.Marks.{Mark}
use Rattle.keep_loop.specs.KeepingOn.{KeepsOn, LooksAt}
use Rattle.keep_loop.specs.Marking.{HoldsWhole, MarksRun, MarksMore, comes_to_end}
use Rattle.keep_loop.specs.Saving.{StandsForSome}
use Rattle.keep_play.specs.KeptSaves.{body_of_world}
use Rattle.run_tasks.specs.declared.status.Status.{Status}
use Rattle.run_tasks.specs.Service.{server_counts}
use Rattle.plant_commands.specs.Machine.{Moves}
use Rattle.plant_commands.specs.Serving.{PrintsAt, CannotRun, TellsAndRuns}
use Rattle.daemon_run.specs.Endless.{endless_kept}
use Rattle.daemon_run.specs.Kept.{ending_kept}

-- it stands for something, whatever numbers a wire has opened
abbrev pub StandsForSomeAnew : (Standing World Client → Type 0) → Type 0
StandsForSomeAnew serves = (opened : List ℕ) → StandsForSome (StandsOver serves opened)

-- from here on the wire made some moves; their bodies were kept over an open store, and what they come to was printed
pub record RunsOn {D : Type 0} (every : ℕ) (x : Standing World Client) (standing : Option slots.Standing) (s : Status) (out out_new : SinkState)
    (contents : D → Option (List ℕ)) (may_leave : D → List ℕ → Type 0) (moment : D → ℕ) (left_since : D → ℕ → List ℕ → Type 0)
    (marked : D → List Mark → Type 0) (faults : D → ℕ) (old_disk new_disk : D) (old new : WireHistory) : Type 0 where
  pub kept : KeptOn
  pub moves : List Move
  pub wire : Moves served_step x endless_kept kept.ended moves old new
  pub keeps : KeepsOn kept (LooksAt kept.ended every body_of_world served_step x.running.state moves)
      (body_of_world (state_after served_step x.running.state moves).world) contents may_leave moment left_since old_disk new_disk standing
  pub failed : 0 < kept.counts.failed → Rose (faults old_disk) (faults new_disk)
  pub marks : (marks : List Mark) → marked old_disk marks → MarksMore (marked new_disk) marks
      (MarksRun (comes_to_end kept.ended) every body_of_world served_step x.running.state (HoldsWhole kept.counts (contents old_disk) standing) old new)
  pub prints : PrintsAt kept.ended (ending_kept kept (server_counts (state_after served_step x.running.state moves))) s out out_new

-- the wire was not started, or that not told, and nothing was done on the disk; or it was, and that ran
abbrev pub EndsOn : {D : Type 0} → ℕ → Listening → Standing World Client → Option slots.Standing → Status → SinkState → SinkState
    → (D → Option (List ℕ)) → (D → List ℕ → Type 0) → (D → ℕ) → (D → ℕ → List ℕ → Type 0) → (D → List Mark → Type 0) → (D → ℕ) → D → D
    → WireHistory → WireHistory → Type 0
EndsOn every a x standing s out out_new contents may_leave moment left_since marked faults old_disk new_disk old new =
    ((new_disk ≡ old_disk) × CannotRun a s out out_new old new)
    ⊎ TellsAndRuns (λ between. RunsOn every x standing s between out_new contents may_leave moment left_since marked faults old_disk new_disk
    (listened a old) new) out
