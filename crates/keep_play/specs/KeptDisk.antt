-- A disk before and behind a run, in plain facts.
use Rattle.std.specs.Prelude.{◌≡◌, ℕ, List, Option, Some}
use Rattle.spec_store.specs.Disk.{Only}
use Rattle.spec_store.specs.Slots.{Standing, standing_of}
use Rattle.persist_store.specs.Marks.{Mark}

-- a disk: the file that a read gives, where it is told, what a stop leaves, which marks may be told, and how many calls failed
pub record DiskUse : Type 1 where
  pub file : Option (List ℕ)
  pub file_new : Option (List ℕ)
  -- what a stop before the run might have left
  pub may_leave : List ℕ → Type 0
  -- what a stop behind the run may leave
  pub may_leave_new : List ℕ → Type 0
  -- what a stop at any moment since then may have left
  pub left : List ℕ → Type 0
  -- which marks may be told before the run, and behind it
  pub marked : List Mark → Type 0
  pub marked_new : List Mark → Type 0
  pub faults : ℕ
  pub faults_new : ℕ

abbrev pub disk_used : {D : Type 0} → (D → Option (List ℕ)) → (D → List ℕ → Type 0) → (D → ℕ) → (D → ℕ → List ℕ → Type 0)
    → (D → List Mark → Type 0) → (D → ℕ) → D → D → DiskUse
disk_used contents may_leave moment left_since marked faults old new = record {
  file = contents old;
  file_new = contents new;
  may_leave = may_leave old;
  may_leave_new = may_leave new;
  left = left_since new (moment old);
  marked = marked old;
  marked_new = marked new;
  faults = faults old;
  faults_new = faults new;
}

-- behind the run the file is told and stands for this, and nothing is pending
pub record FileStands (disk : DiskUse) (standing : Option Standing) : Type 0 where
  pub file : List ℕ
  pub told : disk.file_new ≡ Some file
  pub only : Only file disk.may_leave_new
  pub stands : standing_of file ≡ standing
