-- How the opening of a store ends.
use Rattle.std.specs.Prelude.{◌≡◌, List, ℕ, false, Option, Some}
use Rattle.spec_store.specs.Slots.{standing_of}
use Rattle.persist_store.specs.Store.{IsReady}
use Rattle.persist_store.specs.declared.store_open.StoreOpen.{StoreOpen}
use Rattle.persist_store.specs.declared.store_open.StoreOpen.TheVariants as open_

-- the store is not shut and ready for a save, and it stands for what the file stands for, where that was told
abbrev pub IsOpened : {D : Type 0} → (D → Option (List ℕ)) → (D → List ℕ → Type 0) → D → D → StoreOpen → Type 0
IsOpened contents may_leave old new (open_.Ready store) =
    (store.shut ≡ false) × IsReady contents may_leave new store
    × ((file : List ℕ) → contents old ≡ Some file → store.standing ≡ standing_of file)
IsOpened contents may_leave old new open_.Failed = Unit {0}
