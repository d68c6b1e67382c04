-- What a plant that was served over a store saved, and what it printed.
use Rattle.std.specs.Prelude.{◌≡◌, ◌⊎◌, ◌<◌, ℕ, List, [], length, true, nat_lt, if◌then◌else◌, Option, Some, None}
use Rattle.ads_outside.specs.declared.moves.Move.{Move}
use Rattle.ads_outside.specs.Rose.{Rose}
use Rattle.ads_outside.specs.SinkState.{SinkState}
use Rattle.ads_outside.specs.WireState.{WireHistory, listened}
use Rattle.spec_plant.specs.Accepted.{IsAccepted}
use Rattle.spec_machine.specs.Moves.{state_after}
use Rattle.spec_server.specs.Server.{server}
use Rattle.spec_store.specs.Disk.{Only}
use Rattle.spec_store.specs.Slots.{Standing, standing_of, standing_body}
use Rattle.persist_store.specs.Marks.{Mark}
use Rattle.keep_loop.specs.Bodies.{saves_in}
use Rattle.keep_loop.specs.declared.kept_on.KeptOn.{KeptOn}
use Rattle.keep_loop.specs.declared.save_counts.SaveCounts.{SaveCounts}
use Rattle.keep_loop.specs.declared.save_end.SaveEnd.{SaveEnd}
use Rattle.keep_loop.specs.declared.save_end.SaveEnd.TheVariants as save
use Rattle.keep_loop.specs.KeepingOn.{Begun, MayStand, StoodOnce, AreSomeOf, bodies_begun, all_done, done_in, IsWhole, is_kept, IsAnyOver, LooksAt}
use Rattle.keep_loop.specs.Marking.{HoldsWhole, MarksRun, MarksMore, comes_to_end}
use Rattle.keep_play.specs.KeptDisk.{DiskUse}
use Rattle.keep_play.specs.KeptPlay.{AllSaved}
use Rattle.keep_play.specs.KeptSaves.{body_standing, body_of_world, description_kept}
use Rattle.run_tasks.specs.declared.status.Status.{Status}
use Rattle.run_tasks.specs.declared.status.Status.TheVariants as status
use Rattle.run_tasks.specs.Ending.{Ending, line_alone}
use Rattle.run_tasks.specs.Prints.{PrintsEnding}
use Rattle.run_tasks.specs.Service.{counts_after}
use Rattle.plant_commands.specs.Promises.{HoldsAcceptedIn}
use Rattle.plant_commands.specs.Serving.{MakesMoves, PrintsAt, CannotRun, TellsAndRuns}
use Rattle.daemon_run.specs.Plant.{Plant, Serving, service_of, plant_kept, start_kept}
use Rattle.daemon_run.specs.Printed.{ending_so}

-- the status of a run whose wire had no more events, by what became of the body at its end and by the counts: Done only where it
-- stands, a fault of the store only where a save failed, and its limit only where a body was over it
abbrev pub status_by : Option SaveEnd → SaveCounts → Status
status_by None counts = status.Done
status_by (Some save.Same) counts = status.Done
status_by (Some save.Saved) counts = status.Done
status_by (Some save.Failed) counts = if nat_lt 0 counts.failed then status.StoreFault else status.Memory
status_by (Some save.Limit) counts = if nat_lt 0 counts.over then status.StoreLimit else status.Memory
status_by (Some save.Memory) counts = status.Memory

abbrev pub status_kept : KeptOn → Status
status_kept kept = status_by kept.last kept.counts

-- how it ends with these counts
abbrev pub ending_kept : KeptOn → List ℕ → Ending
ending_kept kept counts = ending_so kept.ended (status_kept kept) (Some kept.counts.saved) counts

-- the saves are those that differ from what stood before, each of them was done, and the file stands for the last of them
pub record SavesEach (disk : DiskUse) (standing : Option Standing) (looked : List (List ℕ)) (begun : List Begun) : Type 0 where
  pub are : begun ≡ all_done (saves_in (body_standing standing) looked)
  pub all : AllSaved disk standing (saves_in (body_standing standing) looked)

-- behind the run the file is told, nothing is pending, and it stands for this body
pub record HoldsBody (disk : DiskUse) (body : List ℕ) : Type 0 where
  pub file : List ℕ
  pub told : disk.file_new ≡ Some file
  pub only : Only file disk.may_leave_new
  pub stands : standing_body file ≡ Some body

-- what became of the bodies that were looked at, of which the last is this one
pub record KeepsBodies (kept : KeptOn) (Looks : List (List ℕ) → Type 0) (last : List ℕ) (disk : DiskUse) (standing : Option Standing)
    (begun : List Begun) : Type 0 where
  pub looked : List (List ℕ)
  pub are : Looks looked
  -- a save was begun of some of them, in their order
  pub some : AreSomeOf (bodies_begun begun) looked
  pub counted : kept.counts.saved ≡ done_in begun
  -- where no save failed, wanted memory or was over the limit: of all that differ from what stood before, and each is done
  pub each : IsWhole kept.counts → SavesEach disk standing looked begun
  -- what a stop behind the run leaves stands for what may stand behind these saves
  pub leaves : (file : List ℕ) → disk.file ≡ Some file → (c : List ℕ) → disk.may_leave_new c → MayStand standing begun (standing_of c)
  -- where the last one was saved, or stood already, the file stands for it
  pub holds : is_kept kept.last ≡ true → (file : List ℕ) → disk.file ≡ Some file → HoldsBody disk last
  -- a save fails only where a call of the disk did, and is over the limit only where a body is
  pub failed : 0 < kept.counts.failed → Rose disk.faults disk.faults_new
  pub over : 0 < kept.counts.over → IsAnyOver looked

-- The wire made some moves, which keep the promises of the server that began with what stood; the bodies among them were kept,
-- and what the moves come to was printed.
pub record RunsKept (h : Serving) (x : Plant) (standing : Option Standing) (begun : List Begun) (s : Status) (out out_new : SinkState)
    (disk : DiskUse) (old new : WireHistory) : Type 0 where
  pub kept : KeptOn
  pub moves : List Move
  pub wire : MakesMoves (service_of h (plant_kept standing x)) kept.ended moves old new
  -- that description need not be one that a text writes: where it is accepted, its writes and handles are held
  pub over_accepted : IsAccepted (description_kept x.description standing) (length h.waves)
      → HoldsAcceptedIn h.profile (description_kept x.description standing) h.waves moves
  pub bodies : KeepsBodies kept (LooksAt kept.ended h.every body_of_world server (start_kept h standing x) moves)
      (body_of_world (state_after server (start_kept h standing x) moves).world) disk standing begun
  -- behind which moves each of them was looked at, as may be told of the disk
  pub marks : (marks : List Mark) → disk.marked marks → MarksMore disk.marked_new marks
      (MarksRun (comes_to_end kept.ended) h.every body_of_world server (start_kept h standing x) (HoldsWhole kept.counts disk.file standing) old new)
  pub prints : PrintsAt kept.ended (ending_kept kept (counts_after (service_of h (plant_kept standing x)).machine moves)) s out out_new

-- the store could not be opened, and that is told
abbrev pub CannotOpen : Status → SinkState → SinkState → DiskUse → WireHistory → WireHistory → Type 0
CannotOpen s out out_new disk old new =
    (new ≡ old) × Rose disk.faults disk.faults_new × PrintsEnding (line_alone status.StoreFault) s out out_new

-- no event was taken, and no save was begun: the store was not opened, or the wire was not started, or that not told
abbrev pub EndsBefore : Plant → List Begun → Status → SinkState → SinkState → DiskUse → WireHistory → WireHistory → Type 0
EndsBefore x begun s out out_new disk old new =
    (begun ≡ []) × (CannotOpen s out out_new disk old new ⊎ CannotRun x.start s out out_new old new)

-- a plant was served over a store, or the run ended before
pub record EndsKept (h : Serving) (x : Plant) (s : Status) (out out_new : SinkState) (disk : DiskUse) (old new : WireHistory) : Type 0 where
  pub standing : Option Standing
  -- it is what the file stood for, where that is told
  pub stood : (file : List ℕ) → disk.file ≡ Some file → standing ≡ standing_of file
  -- the saves that were begun
  pub begun : List Begun
  -- where the file is told: each file that a stop since the beginning may have left might have been left before, or stands for
  -- what stood at some moment of these saves
  pub left : (file : List ℕ) → disk.file ≡ Some file → (c : List ℕ) → disk.left c
      → disk.may_leave c ⊎ StoodOnce standing begun (standing_of c)
  pub ends : EndsBefore x begun s out out_new disk old new
      ⊎ TellsAndRuns (λ between. RunsKept h x standing begun s between out_new disk (listened x.start old) new) out
