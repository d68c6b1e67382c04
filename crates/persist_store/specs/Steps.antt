-- The steps of a save over a disk that tells its file. No public clause cites this but `IsAt` and `HasCause`.
use Rattle.std.specs.Prelude.{◌≡◌, ◌≤◌, ℕ, List, [], ◌∷◌, length, true, Result, Ok, Err, Option, Some, IsErrOf}
use Rattle.ads_outside.specs.FilesState.{ReadsAll, ReadsSome}
use Rattle.ads_outside.specs.Rose.{Rose}
use Rattle.spec_store.specs.Disk.{Only, LeavesOnly}
use Rattle.spec_store.specs.Slots.{Slot, behind_gate, Standing, standing_of}
use Rattle.spec_store.specs.Saves.{next_place, next_slot, standing_after, has_closed_gate}
use Rattle.spec_store.specs.Laws.{MaySave, IsFilled}
use Rattle.persist_store.specs.declared.step_fault.StepFault.{StepFault}
use Rattle.persist_store.specs.declared.step_fault.StepFault.TheVariants as fault

-- a read of the disk gives this file, of which nothing is pending
pub record IsAt {D : Type 0} (contents : D → Option (List ℕ)) (may_leave : D → List ℕ → Type 0) (disk : D) (file : List ℕ) : Type 0 where
  pub told : contents disk ≡ Some file
  pub only : Only file (may_leave disk)

-- a read gives what it gave, and a stop leaves nothing else than before
pub record Stays {D : Type 0} (contents : D → Option (List ℕ)) (may_leave : D → List ℕ → Type 0) (old new : D) : Type 0 where
  pub same : contents new ≡ contents old
  pub stop : (c : List ℕ) → may_leave new c → may_leave old c

-- the same, at every moment from old to new
pub record Passes {D : Type 0} (contents : D → Option (List ℕ)) (may_leave : D → List ℕ → Type 0)
    (moment : D → ℕ) (left_since : D → ℕ → List ℕ → Type 0) (old new : D) : Type 0 where
  pub same : contents new ≡ contents old
  pub stop : (c : List ℕ) → may_leave new c → may_leave old c
  pub since : LeavesOnly moment left_since old new (may_leave old)

-- a step fails only where a call of the disk failed in it
pub record HasCause {T : Type 0} (before now : ℕ) (result : Result T StepFault) : Type 0 where
  pub later : before ≤ now
  pub failed : IsErrOf result fault.Failed → Rose before now

-- a step opened a name; where memory was wanting it may not have
abbrev pub OpensFile : {T : Type 0} → Result T StepFault → Option (List (List ℕ)) → Option (List (List ℕ)) → List ℕ → Type 0
OpensFile (Ok answer) old new name = ReadsAll old new (name ∷ [])
OpensFile (Err fault.Failed) old new name = ReadsAll old new (name ∷ [])
OpensFile (Err fault.Memory) old new name = ReadsSome old new (name ∷ [])

-- the file stands for what it stood for, and the gate at a place is closed
pub record IsShut {D : Type 0} (contents : D → Option (List ℕ)) (may_leave : D → List ℕ → Type 0) (disk : D) (file : List ℕ) (place : ℕ) : Type 0 where
  pub now : List ℕ
  pub here : IsAt contents may_leave disk now
  pub standing : standing_of now ≡ standing_of file
  pub closed : has_closed_gate place now ≡ true

-- the file stands for what it stood for, and the slot at a place is whole but for its gate
pub record IsFull {D : Type 0} (contents : D → Option (List ℕ)) (may_leave : D → List ℕ → Type 0)
    (disk : D) (file : List ℕ) (place : ℕ) (slot : Slot) : Type 0 where
  pub now : List ℕ
  pub here : IsAt contents may_leave disk now
  pub standing : standing_of now ≡ standing_of file
  pub filled : IsFilled place slot now

-- the file stands for a slot
pub record StandsFor {D : Type 0} (contents : D → Option (List ℕ)) (may_leave : D → List ℕ → Type 0) (disk : D) (standing : Standing) : Type 0 where
  pub now : List ℕ
  pub here : IsAt contents may_leave disk now
  pub standing_is : standing_of now ≡ Some standing

-- a body is saved into a file: the place, and what stands behind the gate
pub record IsSaving (file body : List ℕ) (place : ℕ) (behind : List ℕ) : Type 0 where
  pub may : MaySave file body
  pub place_is : place ≡ next_place (standing_of file)
  pub behind_is : behind ≡ behind_gate (next_slot (standing_of file) body)
