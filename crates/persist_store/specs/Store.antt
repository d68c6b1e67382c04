-- A store over a disk: the slot that its file stands for, and whether it is shut; what opening and saving do.
use Rattle.std.specs.Prelude.{◌≡◌, ◌≤◌, ◌^◌, ℕ, ◌-◌, List, Bool, true, false, ◌==◌, ◌||◌, nat_lt, length, Option, Some, None, option_map}
use Rattle.std.specs.Option.{option_map_or}
use Rattle.ads_outside.specs.Rose.{Rose}
use Rattle.spec_store.specs.Disk.{Only, IsSynced}
use Rattle.spec_store.specs.Slots.{Standing, standing_of}
use Rattle.spec_store.specs.Saves.{is_over_limit, standing_after}
use Rattle.persist_store.specs.declared.saved.Saved.{Saved}
use Rattle.persist_store.specs.declared.saved.Saved.TheVariants as saved

pub record StoreState : Type 0 where
  pub standing : Option Standing
  pub shut : Bool

-- the body that stands
abbrev pub body_of : StoreState → Option (List ℕ)
body_of s = option_map (λ (t : Standing). t.slot.body) s.standing

-- where the disk tells its file and the store is not shut, nothing is pending and the file stands for the store's body
abbrev pub IsReady : {D : Type 0} → (D → Option (List ℕ)) → (D → List ℕ → Type 0) → D → StoreState → Type 0
IsReady contents may_leave disk store =
    (file : List ℕ) → contents disk ≡ Some file → store.shut ≡ false
    → Only file (may_leave disk) × (standing_of file ≡ store.standing)

-- how a save ends without a save
abbrev pub IsRefused : StoreState → List ℕ → Saved → Type 0
IsRefused store body answer =
    ((answer ≡ saved.Shut → store.shut ≡ true) × (store.shut ≡ true → answer ≡ saved.Shut))
    × ((answer ≡ saved.Limit → (store.shut ≡ false) × (is_over_limit store.standing body ≡ true))
    × (store.shut ≡ false → is_over_limit store.standing body ≡ true → answer ≡ saved.Limit))

-- the store after a save: with the new body, as it was, or shut
abbrev pub store_after : Saved → StoreState → List ℕ → StoreState
store_after saved.Done store body = record { standing = Some (standing_after store.standing body); shut = false }
store_after saved.Failed store body = record { standing = store.standing; shut = true }
store_after saved.Limit store body = store
store_after saved.Shut store body = store

-- a save that was refused left the disk as it was
abbrev pub LeavesDisk : {D : Type 0} → Saved → D → D → Type 0
LeavesDisk saved.Done old new = Unit {0}
LeavesDisk saved.Failed old new = Unit {0}
LeavesDisk saved.Limit old new = new ≡ old
LeavesDisk saved.Shut old new = new ≡ old
