-- The play of a script over a store: what stands in the end, what a stop leaves, and how it ends.
use Rattle.std.specs.Prelude.{◌≡◌, ◌⊎◌, ℕ, List, true, false, Option, Some, Result, Ok, Err}
use Rattle.ads_base.specs.declared.no_memory.NoMemory.{NoMemory}
use Rattle.ads_outside.specs.Rose.{Rose}
use Rattle.signals.specs.Wave.{Wave}
use Rattle.spec_plant.specs.Description.{Description}
use Rattle.spec_machine.specs.ScriptLine.{ScriptLine}
use Rattle.spec_store.specs.Slots.{Standing, standing_of}
use Rattle.spec_store.specs.Runs.{standing_after_all, IsOneOf}
use Rattle.keep_loop.specs.Bodies.{is_any_over}
use Rattle.keep_play.specs.declared.kept_play.KeptPlay.{KeptPlay}
use Rattle.keep_play.specs.declared.kept_play.KeptPlay.TheVariants as kept
use Rattle.keep_play.specs.KeptDisk.{DiskUse, FileStands}
use Rattle.keep_play.specs.KeptMarks.{AllMarked}
use Rattle.keep_play.specs.KeptSaves.{saves_of_play, kept_text}

-- A script was played over a store, to its end or not: there is something that stood, and with the saves of the play over it
-- the run ended so.
pub record PlaysOverStore (d : Description) (waves : List Wave) (lines : List ScriptLine) (disk : DiskUse)
    (Ends : Option Standing → List (List ℕ) → Type 0) : Type 0 where
  pub standing : Option Standing
  -- it is what the file stood for, where that is told
  pub stood : (file : List ℕ) → disk.file ≡ Some file → standing ≡ standing_of file
  -- where the file is told: each file that a stop since the beginning may have left might have been left before, or stands for
  -- what stood or for one of the saves
  pub left : (file : List ℕ) → disk.file ≡ Some file → (c : List ℕ) → disk.left c
      → disk.may_leave c ⊎ IsOneOf standing (saves_of_play d waves lines standing) (standing_of c)
  pub ends : Ends standing (saves_of_play d waves lines standing)

-- all was played and saved: no save is over the limit, and the file stands for the last of them, where it was told
pub record AllSaved (disk : DiskUse) (standing : Option Standing) (saves : List (List ℕ)) : Type 0 where
  pub within : is_any_over standing saves ≡ false
  pub stands : (file : List ℕ) → disk.file ≡ Some file → FileStands disk (standing_after_all standing saves)

-- how it ends that is to print this where all is done, and to mark so: so; only where a call of the disk failed; or only where a
-- save is over the limit
abbrev pub EndsSo : List ℕ → (Marked : Type 0) → DiskUse → KeptPlay → Option Standing → List (List ℕ) → Type 0
EndsSo printed Marked disk (kept.Done text) standing saves = (text ≡ printed) × AllSaved disk standing saves × Marked
EndsSo printed Marked disk kept.StoreFault standing saves = Rose disk.faults disk.faults_new
EndsSo printed Marked disk kept.StoreLimit standing saves = is_any_over standing saves ≡ true

-- the same of an answer; want of memory may come at any time
abbrev pub EndsKept : Description → List Wave → List ScriptLine → DiskUse → Result KeptPlay NoMemory → Option Standing
    → List (List ℕ) → Type 0
EndsKept d waves lines disk (Ok end) standing saves =
    EndsSo (kept_text d waves lines standing) (AllMarked d waves lines disk standing) disk end standing saves
EndsKept d waves lines disk (Err e) standing saves = Unit {0}
