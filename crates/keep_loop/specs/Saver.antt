-- A saver that stops where a save fails: what it has done with the bodies that it was shown. No public clause cites it.
use Rattle.std.specs.Prelude.{◌≡◌, ℕ, ◌+◌, ◌-◌, ◌^◌, ◌<◌, ◌≤◌, List, length, Bool, true, false, Option, None}
use Rattle.ads_outside.specs.Rose.{Rose}
use Rattle.spec_store.specs.Runs.{standing_after_all}
use Rattle.serve_loop.specs.Looks.{Look}
use Rattle.persist_store.specs.Marks.{Mark, MarksStay}
use Rattle.persist_store.specs.Store.{StoreState, IsReady, body_of}
use Rattle.keep_loop.specs.declared.save_end.SaveEnd.{SaveEnd}
use Rattle.keep_loop.specs.declared.save_end.SaveEnd.TheVariants as save
use Rattle.keep_loop.specs.Bodies.{saves_in, is_any_over}
use Rattle.keep_loop.specs.Keeping.{left_behind}
use Rattle.keep_loop.specs.Marking.{HoldsSaves}
use Rattle.keep_loop.specs.Saving.{LeavesEach, StaysTold, AfterSave}
use Rattle.keep_loop.specs.Shown.{bodies_shown, looked_at, MarksShownSoFar}

-- so many more bodies may be shown to it
pub record MayBeShown {D : Type 0} (contents : D → Option (List ℕ)) (may_leave : D → List ℕ → Type 0) (n every saved : ℕ) (store : StoreState) (disk : D)
    : Type 0 where
  pub some : 1 ≤ every
  pub few : saved + n + 1 < 2 ^ 64
  pub ready : IsReady contents may_leave disk store
  pub open_ : store.shut ≡ false

-- it begins: nothing is saved
pub record BeginsAnew (every left saved : ℕ) : Type 0 where
  pub pace : left ≡ every - 1
  pub none : saved ≡ 0

-- no file is opened, and a disk that tells nothing of its file goes on so
pub record KeepsDisk {D : Type 0} (contents : D → Option (List ℕ)) (names : D → Option (List (List ℕ))) (fault_count : D → ℕ) (old new : D)
    : Type 0 where
  pub untold : contents old ≡ None → contents new ≡ None
  pub named : names new ≡ names old
  pub later : fault_count old ≤ fault_count new

-- these are the saves among the bodies that were shown to one that began with a store: where it is now, what a stop at any moment leaves of
-- them, and the marks
pub record SavesShown {D : Type 0} (contents : D → Option (List ℕ)) (moment : D → ℕ) (left_since : D → ℕ → List ℕ → Type 0)
    (marked : D → List Mark → Type 0) (names : D → Option (List (List ℕ))) (fault_count : D → ℕ) (every every_now left_out saved : ℕ)
    (first now : StoreState) (start disk : D) (saves : List (List ℕ)) (looks : List Look) : Type 0 where
  pub same : every_now ≡ every
  pub are : saves ≡ saves_in (body_of first) (looked_at every looks)
  pub pace : left_out ≡ left_behind every (every - 1) (bodies_shown looks)
  pub counted : saved ≡ length saves
  pub within : is_any_over first.standing saves ≡ false
  pub standing : now.standing ≡ standing_after_all first.standing saves
  pub open_ : now.shut ≡ false
  pub told : StaysTold contents start disk
  pub left : LeavesEach contents moment left_since start disk first.standing saves
  pub marks : (marks : List Mark) → marked start marks
      → MarksShownSoFar (marked disk) marks every (HoldsSaves (contents start) first.standing) looks
  pub keeps : KeepsDisk contents names fault_count start disk

-- the same of one that begins so
abbrev pub SeenBy : {D : Type 0} → (D → Option (List ℕ)) → (D → ℕ) → (D → ℕ → List ℕ → Type 0) → (D → List Mark → Type 0)
    → (D → Option (List (List ℕ))) → (D → ℕ) → ℕ → ℕ → ℕ → ℕ → ℕ → ℕ → StoreState → StoreState → D → D → List (List ℕ) → List Look → Type 0
SeenBy contents moment left_since marked names fault_count every first_left first_saved every_now left saved first now start disk saves looks =
    BeginsAnew every first_left first_saved
    → SavesShown contents moment left_since marked names fault_count every every_now left saved first now start disk saves looks

-- whether what became of a body ends a run
abbrev pub is_stop : SaveEnd → Bool
is_stop save.Same = false
is_stop save.Saved = false
is_stop save.Failed = true
is_stop save.Limit = true
is_stop save.Memory = true

-- a body was to be looked at, and what became of it ends the run
pub record StopsAtLook {D : Type 0} (contents : D → Option (List ℕ)) (may_leave : D → List ℕ → Type 0) (moment : D → ℕ)
    (left_since : D → ℕ → List ℕ → Type 0) (marked : D → List Mark → Type 0) (names : D → Option (List (List ℕ))) (fault_count : D → ℕ)
    (by : SaveEnd) (left_out : ℕ) (old_store new_store : StoreState) (old new : D) (IsBody : List ℕ → Type 0) : Type 0 where
  pub due : left_out ≡ 0
  pub stop : is_stop by ≡ true
  pub saves : AfterSave by IsBody contents moment left_since old new old_store new_store
  pub ready : IsReady contents may_leave old old_store
  pub marks : MarksStay marked old new
  pub keeps : KeepsDisk contents names fault_count old new
  pub failed : by ≡ save.Failed → Rose (fault_count old) (fault_count new)
