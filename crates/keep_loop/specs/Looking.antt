-- What becomes of a body that is looked at where an earlier save may have failed. No public clause cites it.
use Rattle.std.specs.Prelude.{◌≡◌, ◌⊎◌, ℕ, ◌+◌, ◌<◌, ◌≤◌, List, false, Option, Some, None}
use Rattle.ads_outside.specs.declared.end.End.{End}
use Rattle.spec_store.specs.Disk.{LeavesOnly}
use Rattle.spec_store.specs.Slots.{Standing, standing_of}
use Rattle.spec_store.specs.Runs.{standing_after_all}
use Rattle.persist_store.specs.Store.{StoreState, body_of, IsReady}
use Rattle.keep_loop.specs.declared.kept_on.KeptOn.{KeptOn}
use Rattle.keep_loop.specs.declared.save_counts.SaveCounts.{SaveCounts}
use Rattle.keep_loop.specs.declared.save_end.SaveEnd.{SaveEnd}
use Rattle.keep_loop.specs.declared.save_end.SaveEnd.TheVariants as save
use Rattle.keep_loop.specs.Bodies.{saves_in, is_any_over}
use Rattle.keep_loop.specs.KeepingOn.{Begun, MayStand, StoodOnce, AreSomeOf, bodies_begun, all_done, done_in, IsAnyOver, IsWhole}
use Rattle.keep_loop.specs.Saving.{StaysTold, AfterSave}

abbrev pub none_counted : SaveCounts
none_counted = record { saved = 0; failed = 0; wanted = 0; over = 0 }

-- the counts behind one look more
abbrev pub counted : SaveEnd → SaveCounts → SaveCounts
counted save.Same counts = counts
counted save.Saved counts = record counts { saved = counts.saved + 1 }
counted save.Failed counts = record counts { failed = counts.failed + 1 }
counted save.Limit counts = record counts { over = counts.over + 1 }
counted save.Memory counts = record counts { wanted = counts.wanted + 1 }

-- none of them is more than this
pub record AreFew (counts : SaveCounts) (most : ℕ) : Type 0 where
  pub saved : counts.saved ≤ most
  pub failed : counts.failed ≤ most
  pub wanted : counts.wanted ≤ most
  pub over : counts.over ≤ most

-- a store that was open is as it was; another may have been opened: it stands for what the file stands for, which nothing changed
pub record Reopens {D : Type 0} (contents : D → Option (List ℕ)) (may_leave : D → List ℕ → Type 0) (moment : D → ℕ)
    (left_since : D → ℕ → List ℕ → Type 0) (old_disk new_disk : D) (old new : StoreState) : Type 0 where
  pub same : old.shut ≡ false → (new ≡ old) × (new_disk ≡ old_disk)
  pub file_same : contents new_disk ≡ contents old_disk
  pub stop : LeavesOnly moment left_since old_disk new_disk (may_leave old_disk)
  pub ready : IsReady contents may_leave new_disk new

-- it could not be opened
abbrev pub IsUnopened : SaveEnd → Type 0
IsUnopened save.Same = ⊥
IsUnopened save.Saved = ⊥
IsUnopened save.Failed = Unit {0}
IsUnopened save.Limit = ⊥
IsUnopened save.Memory = Unit {0}

-- a body was looked at over an open store
pub record AfterOpenLook {D : Type 0} (by : SaveEnd) (body : List ℕ) (contents : D → Option (List ℕ)) (may_leave : D → List ℕ → Type 0)
    (moment : D → ℕ) (left_since : D → ℕ → List ℕ → Type 0) (old_disk new_disk : D) (old new : StoreState) : Type 0 where
  pub open_ : old.shut ≡ false
  pub saves : AfterSave by (λ b. b ≡ body) contents moment left_since old_disk new_disk old new
  pub told : contents new_disk ≡ None → contents old_disk ≡ None
  pub ready : IsReady contents may_leave new_disk new

-- or nothing was done, since the store could not be opened again
pub record AfterLook {D : Type 0} (by : SaveEnd) (body : List ℕ) (contents : D → Option (List ℕ)) (may_leave : D → List ℕ → Type 0)
    (moment : D → ℕ) (left_since : D → ℕ → List ℕ → Type 0) (old_disk new_disk : D) (old new : StoreState) : Type 0 where
  pub mid_disk : D
  pub mid : StoreState
  pub opens : Reopens contents may_leave moment left_since old_disk mid_disk old mid
  pub looks : (IsUnopened by × (new_disk ≡ mid_disk))
      ⊎ AfterOpenLook by body contents may_leave moment left_since mid_disk new_disk mid new

-- a run whose turns ended so, behind so many counts, and what became of the look at its end
pub record EndsByLook (r : KeptOn) (ended : End) (counts : SaveCounts) (Looks : SaveEnd → Type 0) : Type 0 where
  pub by : SaveEnd
  pub is : r ≡ record { ended = ended; last = Some by; counts = counted by counts }
  pub looks : Looks by

-- nothing failed so far
pub record WholeSoFar (standing : Option Standing) (stood : Option (List ℕ)) (looked : List (List ℕ)) (begun : List Begun) (now : StoreState)
    : Type 0 where
  pub are : begun ≡ all_done (saves_in stood looked)
  pub within : is_any_over standing (saves_in stood looked) ≡ false
  pub standing_is : now.standing ≡ standing_after_all standing (saves_in stood looked)
  pub open_ : now.shut ≡ false

-- what the saves that were begun left of the file
pub record FileSoFar {D : Type 0} (contents : D → Option (List ℕ)) (may_leave : D → List ℕ → Type 0) (moment : D → ℕ)
    (left_since : D → ℕ → List ℕ → Type 0) (old new : D) (standing : Option Standing) (begun : List Begun) : Type 0 where
  pub told : StaysTold contents old new
  pub left : (file : List ℕ) → contents old ≡ Some file → LeavesOnly moment left_since old new (λ c. StoodOnce standing begun (standing_of c))
  pub leaves : (file : List ℕ) → contents old ≡ Some file → (c : List ℕ) → may_leave new c → MayStand standing begun (standing_of c)

-- these bodies were looked at so far
pub record LookedSoFar {D : Type 0} (contents : D → Option (List ℕ)) (may_leave : D → List ℕ → Type 0) (moment : D → ℕ)
    (left_since : D → ℕ → List ℕ → Type 0) (old_disk new_disk : D) (first now : StoreState) (counts : SaveCounts) (looked : List (List ℕ))
    : Type 0 where
  pub begun : List Begun
  pub some : AreSomeOf (bodies_begun begun) looked
  pub saved_is : counts.saved ≡ done_in begun
  pub over : 0 < counts.over → IsAnyOver looked
  pub whole : IsWhole counts → WholeSoFar first.standing (body_of first) looked begun now
  pub file : FileSoFar contents may_leave moment left_since old_disk new_disk first.standing begun
