-- A script that is played over a store, and how that ends.
use Rattle.std.specs.Prelude.{◌≡◌, ◌⊎◌, ℕ, List, true, Option}
use Rattle.ads_outside.specs.Rose.{Rose}
use Rattle.ads_outside.specs.SinkState.{SinkState}
use Rattle.spec_store.specs.Slots.{Standing}
use Rattle.keep_loop.specs.Bodies.{is_any_over}
use Rattle.keep_play.specs.KeptDisk.{DiskUse}
use Rattle.keep_play.specs.KeptMarks.{AllMarked}
use Rattle.keep_play.specs.KeptPlay.{PlaysOverStore, AllSaved}
use Rattle.keep_play.specs.KeptSaves.{kept_text}
use Rattle.run_tasks.specs.declared.status.Status.{Status}
use Rattle.run_tasks.specs.declared.status.Status.TheVariants as status
use Rattle.run_tasks.specs.Ending.{Ending, line_alone}
use Rattle.run_tasks.specs.Prints.{PutsMemoryLine, PrintsEnding}
use Rattle.run_tasks.specs.EndsOr.{EndsOrBy}
use Rattle.run_tasks.specs.Verdict.{Verdict, Keeps}
use Rattle.run_tasks.specs.KeepAsked.{Keeping}

-- the text of the play over what stood, and how many saves were done
abbrev pub kept_ending : Keeping → Option Standing → Ending
kept_ending x standing = record { status = status.Done; text = kept_text x.description x.waves x.lines standing }

-- What was printed, and why: the text of the play where all was saved, each save behind its tick; the line of the limit where a save is over it; that of a
-- fault where a call of the disk failed; or that of want of memory.
abbrev pub PrintsKept : Keeping → Status → SinkState → SinkState → DiskUse → Option Standing → List (List ℕ) → Type 0
PrintsKept x s out out_new disk standing saves =
    (AllSaved disk standing saves × PrintsEnding (kept_ending x standing) s out out_new
    × AllMarked x.description x.waves x.lines disk standing)
    ⊎ ((is_any_over standing saves ≡ true) × PrintsEnding (line_alone status.StoreLimit) s out out_new)
    ⊎ (Rose disk.faults disk.faults_new × PrintsEnding (line_alone status.StoreFault) s out out_new)
    ⊎ ((s ≡ status.Memory) × PutsMemoryLine out out_new)

-- the script was played over the store, to its end or not
abbrev pub EndsKeeping : Keeping → Status → SinkState → SinkState → DiskUse → Type 0
EndsKeeping x s out out_new disk =
    PlaysOverStore x.description x.waves x.lines disk (PrintsKept x s out out_new disk)

-- a run with this verdict that calls no wire, no link and no keeper: its ending is printed; or a script is played over a store
abbrev pub KeepsBy : Verdict → Type 0 → Status → SinkState → SinkState → DiskUse → Type 0
KeepsBy verdict reading_failed s out out_new disk =
    EndsOrBy Keeps (λ x. EndsKeeping x s out out_new disk) (Unit {0}) verdict reading_failed s out out_new
