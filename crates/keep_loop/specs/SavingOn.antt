-- A saver that goes on where a save fails: what it has done with the bodies that it was shown. No public clause cites it.
use Rattle.std.specs.Prelude.{◌≡◌, ℕ, ◌+◌, ◌-◌, ◌^◌, ◌<◌, ◌≤◌, List, [], Option, None}
use Rattle.ads_outside.specs.Rose.{Rose}
use Rattle.serve_loop.specs.Looks.{Look}
use Rattle.persist_store.specs.Disk.{OpensOnly}
use Rattle.persist_store.specs.Marks.{Mark}
use Rattle.persist_store.specs.Store.{StoreState, IsReady}
use Rattle.keep_loop.specs.declared.save_counts.SaveCounts.{SaveCounts}
use Rattle.keep_loop.specs.Keeping.{left_behind}
use Rattle.keep_loop.specs.Looking.{AreFew, LookedSoFar}
use Rattle.keep_loop.specs.Marking.{HoldsWhole}
use Rattle.keep_loop.specs.Shown.{bodies_shown, looked_at, MarksShownSoFar}

-- such a saver, but whom it tells
pub record Saver : Type 0 where
  pub store : StoreState
  pub every : ℕ
  -- how many more ticks are let pass
  pub left : ℕ
  pub counts : SaveCounts
  -- by which the store is opened again
  pub name : List ℕ

abbrev pub saver : StoreState → ℕ → ℕ → SaveCounts → List ℕ → Saver
saver store every left counts name = record { store = store; every = every; left = left; counts = counts; name = name }

-- so many more bodies may be shown to it, and one at the end
pub record MayBeShown {D : Type 0} (contents : D → Option (List ℕ)) (may_leave : D → List ℕ → Type 0) (n : ℕ) (disk : D) (s : Saver) : Type 0 where
  pub every : 1 ≤ s.every
  pub most : ℕ
  pub few : AreFew s.counts most
  pub room : most + n + 1 < 2 ^ 64
  pub ready : IsReady contents may_leave disk s.store

-- what became of the bodies that were shown to one that was so first
pub record ShownOn {D : Type 0} (contents : D → Option (List ℕ)) (may_leave : D → List ℕ → Type 0) (moment : D → ℕ)
    (left_since : D → ℕ → List ℕ → Type 0) (marked : D → List Mark → Type 0) (names : D → Option (List (List ℕ))) (fault_count : D → ℕ)
    (start disk : D) (first now : Saver) (looks : List Look) : Type 0 where
  pub every : now.every ≡ first.every
  pub name : now.name ≡ first.name
  pub pace : now.left ≡ left_behind first.every (first.every - 1) (bodies_shown looks)
  pub looked : LookedSoFar contents may_leave moment left_since start disk first.store now.store now.counts (looked_at first.every looks)
  pub failed : 0 < now.counts.failed → Rose (fault_count start) (fault_count disk)
  pub untold : contents start ≡ None → contents disk ≡ None
  pub named : OpensOnly (names start) (names disk) first.name
  pub later : fault_count start ≤ fault_count disk
  pub marks : (marks : List Mark) → marked start marks
      → MarksShownSoFar (marked disk) marks first.every (HoldsWhole now.counts (contents start) first.store.standing) looks

-- it begins with nothing shown
abbrev pub BeginsAnew : {D : Type 0} → (D → Option (List ℕ)) → (D → List ℕ → Type 0) → (D → ℕ) → (D → ℕ → List ℕ → Type 0)
    → (D → List Mark → Type 0) → (D → Option (List (List ℕ))) → (D → ℕ) → D → Saver → Type 0
BeginsAnew contents may_leave moment left_since marked names fault_count disk s =
    ShownOn contents may_leave moment left_since marked names fault_count disk disk s s []

abbrev pub SavesShown : {D : Type 0} → (D → Option (List ℕ)) → (D → List ℕ → Type 0) → (D → ℕ) → (D → ℕ → List ℕ → Type 0)
    → (D → List Mark → Type 0) → (D → Option (List (List ℕ))) → (D → ℕ) → D → D → Saver → Saver → List Look → Type 0
SavesShown contents may_leave moment left_since marked names fault_count start disk first now looks =
    BeginsAnew contents may_leave moment left_since marked names fault_count start first
    → ShownOn contents may_leave moment left_since marked names fault_count start disk first now looks
