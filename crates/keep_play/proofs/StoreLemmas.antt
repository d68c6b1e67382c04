-- A store is opened, and a script is played over it.
use Rattle.std.proofs.Common.{◌≡◌, ℕ, ◌≤◌, List, ap, ◌∙◌, subst, inl, inr, arith}
use Rattle.std.specs.Prelude.{◌⊎◌, Option, Some, None, Result, Ok, Err, IfOk}
use Rattle.ads_base.specs.declared.no_memory.NoMemory.{NoMemory}
use Rattle.ads_outside.specs.Rose.{Rose}
use Rattle.signals.specs.Wave.{Wave}
use Rattle.spec_plant.specs.Description.{Description}
use Rattle.spec_machine.specs.ScriptLine.{ScriptLine}
use Rattle.spec_store.specs.Disk.{LeavesOnly}
use Rattle.spec_store.specs.Slots.{Standing, standing_of}
use Rattle.spec_store.specs.Runs.{IsOneOf}
use Rattle.persist_store.specs.Marks.{Mark, MarksStay}
use Rattle.persist_store.specs.Store.{StoreState}
use Rattle.persist_store.proofs.Moments.{weaker, joins}
use Rattle.keep_loop.specs.Marking.{MarksMore}
use Rattle.keep_loop.specs.Saving.{LeavesEach}
use Rattle.keep_play.specs.declared.kept_play.KeptPlay.{KeptPlay}
use Rattle.keep_play.specs.declared.kept_play.KeptPlay.TheVariants as kept
use Rattle.keep_play.specs.KeptDisk.{disk_used, FileStands}
use Rattle.keep_play.specs.KeptMarks.{MarksOver, AllMarked}
use Rattle.keep_play.specs.KeptPlay.{PlaysOverStore, EndsSo, EndsKept}
use Rattle.keep_play.specs.KeptSaves.{description_kept, saves_of_play, kept_text}

-- what a file stands for, where there is one
standing_in : Option (List ℕ) → Option Standing
standing_in None = None
standing_in (Some file) = standing_of file

standing_told : (o : Option (List ℕ)) (file : List ℕ) → o ≡ Some file → standing_in o ≡ standing_of file
unfolding standing_in standing_of
standing_told o file told = ap standing_in told

rose_later : (a b c : ℕ) → a ≤ b → Rose b c → Rose a c
rose_later a b c le rose = omega (arith, le, rose)

module _ {D : Type 0} (contents : D → Option (List ℕ)) (may_leave : D → List ℕ → Type 0) (moment : D → ℕ) (left_since : D → ℕ → List ℕ → Type 0)
    (marked : D → List Mark → Type 0) (faults : D → ℕ) where
  -- the same disk, seen from before it was opened
  stands_from : (old mid new : D) (standing : Option Standing) → FileStands (disk_used contents may_leave moment left_since marked faults mid new) standing
      → FileStands (disk_used contents may_leave moment left_since marked faults old new) standing
  stands_from old mid new standing f = record { file = f.file; told = f.told; only = f.only; stands = f.stands }

  marked_from : (old mid new : D) (d : Description) (waves : List Wave) (lines : List ScriptLine) (standing : Option Standing) → contents mid ≡ contents old
      → MarksStay marked old mid → AllMarked d waves lines (disk_used contents may_leave moment left_since marked faults mid new) standing
      → AllMarked d waves lines (disk_used contents may_leave moment left_since marked faults old new) standing
  marked_from old mid new d waves lines standing same stay all = λ marks told.
      let P : Option (List ℕ) → Type 0 = λ file. MarksMore (marked new) marks (MarksOver (description_kept d standing) waves lines file standing) in
      subst P same (all marks (stay marks told))

  ends_from : (old mid new : D) (printed : List ℕ) (Marked Then : Type 0) (end : KeptPlay) (standing : Option Standing) (saves : List (List ℕ))
      → (Marked → Then) → contents mid ≡ contents old → faults old ≤ faults mid
      → EndsSo printed Marked (disk_used contents may_leave moment left_since marked faults mid new) end standing saves
      → EndsSo printed Then (disk_used contents may_leave moment left_since marked faults old new) end standing saves
  ends_from old mid new printed Marked Then (kept.Done text) standing saves then_ same later ends = (
    ends.0,
    record { within = ends.1.within; stands = λ file told. stands_from old mid new _ (ends.1.stands file (same ∙ told)) },
    then_ ends.2,
  )
  ends_from old mid new printed Marked Then kept.StoreFault standing saves then_ same later ends = rose_later (faults old) (faults mid) (faults new) later ends
  ends_from old mid new printed Marked Then kept.StoreLimit standing saves then_ same later ends = ends

  left_from : (old mid new : D) (standing : Option Standing) (saves : List (List ℕ)) → contents mid ≡ contents old
      → LeavesOnly moment left_since old mid (may_leave old) → LeavesEach contents moment left_since mid new standing saves
      → (file : List ℕ) → contents old ≡ Some file → (c : List ℕ) → left_since new (moment old) c → may_leave old c ⊎ IsOneOf standing saves (standing_of c)
  left_from old mid new standing saves same opened left file told =
      let P : List ℕ → Type 0 = λ c. may_leave old c ⊎ IsOneOf standing saves (standing_of c) in
      (joins moment left_since old mid new P (weaker moment left_since old mid (may_leave old) P (λ c before. inl before) opened)
      (weaker moment left_since mid new (λ c. IsOneOf standing saves (standing_of c)) P (λ c one. inr one) (left file (same ∙ told)))).each

  -- the store was opened, and the script was played to an end
  plays_opened : (old mid new : D) (store : StoreState) (d : Description) (waves : List Wave) (lines : List ScriptLine) (end : KeptPlay)
      → contents mid ≡ contents old → LeavesOnly moment left_since old mid (may_leave old) → faults old ≤ faults mid → MarksStay marked old mid
      → ((file : List ℕ) → contents old ≡ Some file → store.standing ≡ standing_of file)
      → LeavesEach contents moment left_since mid new store.standing (saves_of_play d waves lines store.standing)
      → EndsSo (kept_text d waves lines store.standing)
      (AllMarked d waves lines (disk_used contents may_leave moment left_since marked faults mid new) store.standing)
      (disk_used contents may_leave moment left_since marked faults mid new) end store.standing
      (saves_of_play d waves lines store.standing)
      → PlaysOverStore d waves lines (disk_used contents may_leave moment left_since marked faults old new)
      (EndsKept d waves lines (disk_used contents may_leave moment left_since marked faults old new) (Ok end))
  plays_opened old mid new store d waves lines end same opened later stay stood left ends = record {
    standing = store.standing;
    stood = stood;
    left = left_from old mid new store.standing (saves_of_play d waves lines store.standing) same opened left;
    ends = ends_from old mid new (kept_text d waves lines store.standing)
        (AllMarked d waves lines (disk_used contents may_leave moment left_since marked faults mid new) store.standing)
        (AllMarked d waves lines (disk_used contents may_leave moment left_since marked faults old new) store.standing) end store.standing
        (saves_of_play d waves lines store.standing) (marked_from old mid new d waves lines store.standing same stay) same later ends;
  }

  -- the store was opened, and then memory was wanting
  breaks_opened : (old mid new : D) (store : StoreState) (d : Description) (waves : List Wave) (lines : List ScriptLine) (e : NoMemory)
      → contents mid ≡ contents old → LeavesOnly moment left_since old mid (may_leave old)
      → ((file : List ℕ) → contents old ≡ Some file → store.standing ≡ standing_of file)
      → LeavesEach contents moment left_since mid new store.standing (saves_of_play d waves lines store.standing)
      → PlaysOverStore d waves lines (disk_used contents may_leave moment left_since marked faults old new)
      (EndsKept d waves lines (disk_used contents may_leave moment left_since marked faults old new) (Err e))
  breaks_opened old mid new store d waves lines e same opened stood left = record {
    standing = store.standing;
    stood = stood;
    left = left_from old mid new store.standing (saves_of_play d waves lines store.standing) same opened left;
    ends = tt;
  }

  -- the store was not opened
  pub plays_unopened : (old new : D) (d : Description) (waves : List Wave) (lines : List ScriptLine) → LeavesOnly moment left_since old new (may_leave old)
      → Rose (faults old) (faults new)
      → PlaysOverStore d waves lines (disk_used contents may_leave moment left_since marked faults old new)
      (EndsKept d waves lines (disk_used contents may_leave moment left_since marked faults old new) (Ok kept.StoreFault))
  plays_unopened old new d waves lines opened rose = record {
    standing = standing_in (contents old);
    stood = λ file told. standing_told (contents old) file told;
    left = λ file told c left. inl (opened.each c left);
    ends = rose;
  }

  pub breaks_unopened : (old new : D) (d : Description) (waves : List Wave) (lines : List ScriptLine) (e : NoMemory)
      → LeavesOnly moment left_since old new (may_leave old)
      → PlaysOverStore d waves lines (disk_used contents may_leave moment left_since marked faults old new)
      (EndsKept d waves lines (disk_used contents may_leave moment left_since marked faults old new) (Err e))
  breaks_unopened old new d waves lines e opened = record {
    standing = standing_in (contents old);
    stood = λ file told. standing_told (contents old) file told;
    left = λ file told c left. inl (opened.each c left);
    ends = tt;
  }

  -- the store was opened, and the script was played
  pub plays_so : (old mid new : D) (store : StoreState) (d : Description) (waves : List Wave) (lines : List ScriptLine) (result : Result KeptPlay NoMemory)
      → contents mid ≡ contents old → LeavesOnly moment left_since old mid (may_leave old) → faults old ≤ faults mid → MarksStay marked old mid
      → ((file : List ℕ) → contents old ≡ Some file → store.standing ≡ standing_of file)
      → LeavesEach contents moment left_since mid new store.standing (saves_of_play d waves lines store.standing)
      → IfOk result (λ end. EndsSo (kept_text d waves lines store.standing)
      (AllMarked d waves lines (disk_used contents may_leave moment left_since marked faults mid new) store.standing)
      (disk_used contents may_leave moment left_since marked faults mid new) end store.standing
      (saves_of_play d waves lines store.standing))
      → PlaysOverStore d waves lines (disk_used contents may_leave moment left_since marked faults old new)
      (EndsKept d waves lines (disk_used contents may_leave moment left_since marked faults old new) result)
  plays_so old mid new store d waves lines (Ok end) same opened later stay stood left ends =
      plays_opened old mid new store d waves lines end same opened later stay stood left ends
  plays_so old mid new store d waves lines (Err e) same opened later stay stood left ends =
      breaks_opened old mid new store d waves lines e same opened stood left
