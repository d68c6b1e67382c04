-- How a run of `keep` ends.
use Rattle.std.proofs.Common.{◌≡◌, ◌∷◌, ℕ, List, [], Option, Some, None, inl, inr, subst, ap, refl}
use Rattle.std.specs.Prelude.{Result, Ok, Err}
use Rattle.ads_base.specs.declared.no_memory.NoMemory.{NoMemory}
use Rattle.ads_outside.specs.declared.named_file.NamedFile.{NamedFile}
use Rattle.ads_outside.specs.FilesState.{ReadsAll}
use Rattle.ads_outside.specs.SinkState.{SinkState}
use Rattle.signals.specs.Wave.{Wave}
use Rattle.spec_plant.specs.Description.{Description}
use Rattle.spec_machine.specs.ScriptLine.{ScriptLine}
use Rattle.spec_store.specs.Slots.{Standing, standing_of}
use Rattle.persist_store.specs.Disk.{OpensOnce}
use Rattle.keep_play.specs.declared.kept_play.KeptPlay.{KeptPlay}
use Rattle.keep_play.specs.declared.kept_play.KeptPlay.TheVariants as kept
use Rattle.keep_play.specs.KeptPlay.{PlaysOverStore, EndsKept}
use Rattle.keep_play.specs.KeptSaves.{saves_of_play, kept_text}
use Rattle.run_tasks.specs.declared.status.Status.{Status}
use Rattle.run_tasks.specs.declared.status.Status.TheVariants as status
use Rattle.plant_commands.specs.Keeping.{KeepsBy, EndsKeeping, PrintsKept}
use Rattle.run_tasks.specs.KeepAsked.{Keeping, keeping}
use Rattle.plant_commands.specs.FileOutcomes.{IsOfKeeping, PrintsPlay}
use Rattle.run_tasks.specs.Prints.{PutsMemoryLine}
use Rattle.run_tasks.specs.Openings.{OpensOne}
use Rattle.run_tasks.specs.Readings.{Names, OverFiles, ReadsBoth}
use Rattle.keep_play.specs.KeptDisk.{DiskUse}
use Rattle.run_tasks.specs.Verdict.{Keeps, over_store, verdict_of_both}
use Rattle.run_tasks.proofs.VerdictLemmas.{of_both}
use Rattle.run_tasks.proofs.EndLemmas.{prints_same, any_files, wants_endings}
use Rattle.run_tasks.proofs.OpenLemmas.{opens_all, opens_some}
use Rattle.run_tasks.proofs.ReadLemmas.{some_of_two}
use Rattle.run_tasks.specs.EndsOr.{EndsOr}

-- what is printed of a play that ended so
kept_ends : (x : Keeping) (played : Result KeptPlay NoMemory) (s : Status) (out out_new : SinkState) (disk : DiskUse) (standing : Option Standing)
    (saves : List (List ℕ)) → EndsKept x.description x.waves x.lines disk played standing saves → PrintsPlay played s out out_new
    → PrintsKept x s out out_new disk standing saves
kept_ends x (Ok (kept.Done text)) s out out_new disk standing saves ends printed =
    inl (ends.1, prints_same status.Done text (kept_text x.description x.waves x.lines standing) s out out_new ends.0 printed, ends.2)
kept_ends x (Ok kept.StoreFault) s out out_new disk standing saves ends printed = inr (inr (inl (ends, printed)))
kept_ends x (Ok kept.StoreLimit) s out out_new disk standing saves ends printed = inr (inl (ends, printed))
kept_ends x (Err e) s out out_new disk standing saves ends printed = inr (inr (inr printed))

pub kept_printed : (d : Description) (waves : List Wave) (lines : List ScriptLine) (played : Result KeptPlay NoMemory) (s : Status)
    (out out_new : SinkState) (disk : DiskUse) → PlaysOverStore d waves lines disk (EndsKept d waves lines disk played) → PrintsPlay played s out out_new
    → EndsKeeping (keeping d waves lines) s out out_new disk
kept_printed d waves lines played s out out_new disk h printed = record {
  standing = h.standing;
  stood = h.stood;
  left = h.left;
  ends = kept_ends (keeping d waves lines) played s out out_new disk h.standing (saves_of_play d waves lines h.standing) h.ends printed;
}

-- nothing was done on the disk
abbrev pub IsUntouched : DiskUse → Type 0
IsUntouched disk = (c : List ℕ) → disk.left c → disk.may_leave c

-- a disk that is as it was
pub untouched_same : {D : Type 0} (may_leave : D → List ℕ → Type 0) (moment : D → ℕ) (left_since : D → ℕ → List ℕ → Type 0)
    → ((disk : D) (c : List ℕ) → left_since disk (moment disk) c → may_leave disk c) → (old new : D) → new ≡ old
    → (c : List ℕ) → left_since new (moment old) c → may_leave old c
untouched_same may_leave moment left_since only_now old new same c left =
    only_now old c (subst (λ d. left_since d (moment old) c) same left)

stood_in : Option (List ℕ) → Option Standing
stood_in None = None
stood_in (Some file) = standing_of file

-- a run that wanted memory before it called the disk
pub never_kept : (x : Keeping) (s : Status) (out out_new : SinkState) (disk : DiskUse) → IsUntouched disk → s ≡ status.Memory → PutsMemoryLine out out_new
    → EndsKeeping x s out out_new disk
unfolding stood_in
never_kept x s out out_new disk untouched is line = record {
  standing = stood_in disk.file;
  stood = λ file told. ap stood_in told;
  left = λ file told c left. inl (untouched c left);
  ends = inr (inr (inr (is, line)));
}

-- nor had it one for the play of any verdict
pub keeps_without_memory : (held : Option (List NamedFile)) (waves : List Wave) (signals : ℕ) (description script : List ℕ) (failed : Type 0) (s : Status)
    (out out_new : SinkState) (disk : DiskUse) → IsUntouched disk → s ≡ status.Memory → PutsMemoryLine out out_new
    → OverFiles held (λ first second. KeepsBy (verdict_of_both signals (over_store waves) description script first second) failed s out out_new disk)
keeps_without_memory held waves signals description script failed s out out_new disk untouched is line =
    let C : Keeping → Type 0 = λ x. EndsKeeping x s out out_new disk in
    any_files held (λ first second. KeepsBy (verdict_of_both signals (over_store waves) description script first second) failed s out out_new disk)
    (λ first second. inl (of_both (λ v. EndsOr Keeps C (Unit {0}) v s out out_new) (wants_endings Keeps C (Unit {0}) s out out_new tt (is, line))
    (over_store waves)
    (λ d lines. inr (record { made = keeping d waves lines; is = refl; comes = never_kept (keeping d waves lines) s out out_new disk untouched is line }))
    signals description script first second))

-- both files are read, however the play ends
pub both_read : (s : Status) (old new : Names) (a b : List ℕ) → IsOfKeeping s → ReadsAll old new (a ∷ b ∷ []) → ReadsBoth s old new a b
both_read status.Done old new a b plain h = h
both_read status.WriteFault old new a b plain h = inr h
both_read status.Memory old new a b plain h = some_of_two old new a b h
both_read status.StoreFault old new a b plain h = h
both_read status.StoreLimit old new a b plain h = h
both_read status.Usage old new a b plain h = absurd plain
both_read (status.BadDescription n i) old new a b plain h = absurd plain
both_read (status.BadScript n) old new a b plain h = absurd plain
both_read status.ReadFault old new a b plain h = absurd plain
both_read status.LinkFault old new a b plain h = absurd plain
both_read status.Budget old new a b plain h = absurd plain
both_read status.TooLong old new a b plain h = absurd plain
both_read (status.Refused n) old new a b plain h = absurd plain
both_read (status.BadPeer broke) old new a b plain h = absurd plain
both_read (status.TimedOut m n) old new a b plain h = absurd plain
both_read status.BadValue old new a b plain h = absurd plain
both_read status.KeeperFault old new a b plain h = absurd plain

-- the store was opened, once, or memory was wanting
pub kept_opens : (played : Result KeptPlay NoMemory) (s : Status) (out out_new : SinkState) (old new : Names) (name : List ℕ)
    → PrintsPlay played s out out_new → OpensOnce played old new name → OpensOne s old new name
kept_opens (Ok end) s out out_new old new name printed all = opens_all s old new name all
kept_opens (Err e) s out out_new old new name printed some = opens_some s old new name printed.0 some
