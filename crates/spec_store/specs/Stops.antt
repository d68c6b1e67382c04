-- A list of calls of a disk, and the files that a stop at any moment of it may leave.
use Rattle.std.specs.Prelude.{◌≡◌, ℕ, List, [], ◌∷◌, length}
use Rattle.spec_store.specs.Disk.{written, Torn}

-- bytes are written at a place, or all that was written is brought to the disk
pub data DiskCall : Type 0 where
  WriteAt : ℕ → List ℕ → DiskCall
  Sync : DiskCall

-- what a read gives once these calls have answered that they are done
unfoldable pub file_after : List ℕ → List DiskCall → List ℕ
file_after file [] = file
file_after file (WriteAt at bytes ∷ calls) = file_after (written at bytes file) calls
file_after file (Sync ∷ calls) = file_after file calls

-- what a stop may leave in a write or behind it, where these are the files that it might have left before
abbrev pub torn_from : ℕ → List ℕ → (List ℕ → Type 0) → List ℕ → Type 0
torn_from at bytes may_leave new = (old : List ℕ) × may_leave old × Torn at (length bytes) old new

-- A stop before, in or behind each of these calls leaves a file that has P: where a read gave `file` before them, and a
-- stop might have left these files. A sync that is not over changes nothing that a stop may leave.
unfoldable pub LeavesAlways : (List ℕ → Type 0) → List ℕ → (List ℕ → Type 0) → List DiskCall → Type 0
LeavesAlways P file may_leave [] = (c : List ℕ) → may_leave c → P c
LeavesAlways P file may_leave (WriteAt at bytes ∷ calls) =
    ((c : List ℕ) → may_leave c → P c)
    × LeavesAlways P (written at bytes file) (torn_from at bytes may_leave) calls
LeavesAlways P file may_leave (Sync ∷ calls) =
    ((c : List ℕ) → may_leave c → P c) × LeavesAlways P file (λ new. new ≡ file) calls

-- a stop behind all these calls, once they are done, leaves a file that has P
unfoldable pub LeavesBehind : (List ℕ → Type 0) → List ℕ → (List ℕ → Type 0) → List DiskCall → Type 0
LeavesBehind P file may_leave [] = (c : List ℕ) → may_leave c → P c
LeavesBehind P file may_leave (WriteAt at bytes ∷ calls) =
    LeavesBehind P (written at bytes file) (torn_from at bytes may_leave) calls
LeavesBehind P file may_leave (Sync ∷ calls) = LeavesBehind P file (λ new. new ≡ file) calls
