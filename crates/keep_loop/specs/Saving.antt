-- What became of a body that may have to be saved. No public clause cites it but `LeavesEach` and `StandsForSome`.
use Rattle.std.specs.Prelude.{◌≡◌, ◌⊎◌, ℕ, List, [], ◌∷◌, true, false, Option, Some}
use Rattle.spec_store.specs.Disk.{LeavesOnly}
use Rattle.spec_store.specs.Slots.{Standing, standing_of}
use Rattle.spec_store.specs.Saves.{is_over_limit, standing_after}
use Rattle.spec_store.specs.Runs.{IsOneOf}
pub use Rattle.serve_loop.specs.TurnTaken.{StandsForSome}
use Rattle.persist_store.specs.Store.{StoreState, body_of}
use Rattle.keep_loop.specs.declared.save_end.SaveEnd.{SaveEnd}
use Rattle.keep_loop.specs.declared.save_end.SaveEnd.TheVariants as save
use Rattle.keep_loop.specs.Bodies.{is_standing}

-- where the disk told its file: a stop at any moment from old to new leaves a file that stands for what stood, or for one
-- of these saves
abbrev pub LeavesEach : {D : Type 0} → (D → Option (List ℕ)) → (D → ℕ) → (D → ℕ → List ℕ → Type 0) → D → D
    → Option Standing → List (List ℕ) → Type 0
LeavesEach {D} contents moment left_since old new standing saves = (file : List ℕ) → contents old ≡ Some file
    → LeavesOnly moment left_since old new (λ c. IsOneOf standing saves (standing_of c))

-- a read gives something, where it gave something before
abbrev pub StaysTold : {D : Type 0} → (D → Option (List ℕ)) → D → D → Type 0
StaysTold {D} contents old new = (file : List ℕ) → contents old ≡ Some file
    → (now : List ℕ) × (contents new ≡ Some now)

-- a body that is one, and does not stand
pub record Differs (IsBody : List ℕ → Type 0) (store : StoreState) : Type 0 where
  pub body : List ℕ
  pub is : IsBody body
  pub differs : is_standing (body_of store) body ≡ false

-- a body that stands, and nothing was done
pub record StaysSame {D : Type 0} (IsBody : List ℕ → Type 0) (old_disk new_disk : D) (old new : StoreState) : Type 0 where
  pub body : List ℕ
  pub is : IsBody body
  pub stands : is_standing (body_of old) body ≡ true
  pub disk : new_disk ≡ old_disk
  pub store : new ≡ old

-- a body that was saved
pub record IsSaved {D : Type 0} (IsBody : List ℕ → Type 0) (contents : D → Option (List ℕ)) (moment : D → ℕ)
    (left_since : D → ℕ → List ℕ → Type 0) (old_disk new_disk : D) (old new : StoreState) : Type 0 where
  pub body : List ℕ
  pub is : IsBody body
  pub differs : is_standing (body_of old) body ≡ false
  pub within : is_over_limit old.standing body ≡ false
  pub store : new ≡ record { standing = Some (standing_after old.standing body); shut = false }
  pub told : StaysTold contents old_disk new_disk
  pub left : LeavesEach contents moment left_since old_disk new_disk old.standing (body ∷ [])

-- a body of which a save was begun
pub record IsBegun {D : Type 0} (IsBody : List ℕ → Type 0) (contents : D → Option (List ℕ)) (moment : D → ℕ)
    (left_since : D → ℕ → List ℕ → Type 0) (old_disk new_disk : D) (old : StoreState) : Type 0 where
  pub body : List ℕ
  pub is : IsBody body
  pub differs : is_standing (body_of old) body ≡ false
  pub left : LeavesEach contents moment left_since old_disk new_disk old.standing (body ∷ [])

abbrev pub AfterSave : {D : Type 0} → SaveEnd → (List ℕ → Type 0) → (D → Option (List ℕ)) → (D → ℕ)
    → (D → ℕ → List ℕ → Type 0) → D → D → StoreState → StoreState → Type 0
AfterSave save.Same IsBody contents moment left_since old_disk new_disk old new =
    StaysSame IsBody old_disk new_disk old new
AfterSave save.Saved IsBody contents moment left_since old_disk new_disk old new =
    IsSaved IsBody contents moment left_since old_disk new_disk old new
AfterSave save.Failed IsBody contents moment left_since old_disk new_disk old new =
    (b : IsBegun IsBody contents moment left_since old_disk new_disk old) × (is_over_limit old.standing b.body ≡ false)
AfterSave save.Limit IsBody contents moment left_since old_disk new_disk old new =
    (d : Differs IsBody old) × (is_over_limit old.standing d.body ≡ true) × (new_disk ≡ old_disk)
AfterSave save.Memory IsBody contents moment left_since old_disk new_disk old new =
    (new_disk ≡ old_disk) ⊎ IsBegun IsBody contents moment left_since old_disk new_disk old
