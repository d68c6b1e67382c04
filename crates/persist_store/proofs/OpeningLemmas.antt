-- The slots of a file, read into rooms of the greatest slot.
use Rattle.std.proofs.Common.{◌≡◌, ℕ, ◌≤◌, List, length, take, drop, refl, sym, subst, ◌∙◌, ap, inl, inr, arith}
use Rattle.std.specs.Prelude.{Bool, true, false, Option, Some, None, option_map}
use Rattle.std.proofs.lemmas.Bool.{cases_Bool}
use Rattle.std.proofs.lemmas.List.{take-take}
use Rattle.spec_store.specs.Slots.{slot_of, counts, Standing, standing_of, standing_of_slots}
use Rattle.spec_store.specs.Saves.{place_of}
use Rattle.spec_store.proofs.SlotLemmas.{counted, slot_of-not, same_slot}
use Rattle.persist_store.specs.Disk.{Reads}
use Rattle.persist_store.specs.Steps.{IsAt, Passes}
use Rattle.persist_store.specs.declared.disk_read.DiskRead.TheVariants as read

-- a slot lies within the first bytes
pub slot_of-take : (n : ℕ) (t : List ℕ) → 1048589 ≤ n → slot_of (take n t) ≡ slot_of t
slot_of-take n t le = elim (cases_Bool (counts t)) [
  | inl h ↦ same_slot n t (take n t) (counted t h) (omega (arith, (counted t h).short, le)) (take-take n n t (omega arith))
  | inr h ↦ elim (cases_Bool (counts (take n t))) [
    | inl k ↦ sym (same_slot n (take n t) t (counted (take n t) k) (omega (arith, (counted (take n t) k).short, le)) (sym (take-take n n t (omega arith))))
    | inr k ↦ slot_of-not (take n t) k ∙ sym (slot_of-not t h)
  ]
]

-- the slot at a place, where a read of that place filled the room
pub slot_read : (told : Option (List ℕ)) (place n : ℕ) (room file : List ℕ) → Reads (read.Bytes n) told place room → told ≡ Some file → length room ≡ 1048589
    → slot_of (take n room) ≡ slot_of (drop place file)
slot_read told place n room file reads is len =
    let P : Option (List ℕ) → Type 0 = λ o. Reads (read.Bytes n) o place room in
    let here = subst P is reads in
    ap slot_of (here.1 ∙ rw len refl) ∙ slot_of-take 1048589 (drop place file) (omega arith)

-- what a file stands for, by its two slots
pub standing_by_slots : (file : List ℕ) (s : Option Standing)
    → s ≡ standing_of_slots (slot_of (drop (place_of false) file)) (slot_of (drop (place_of true) file)) → s ≡ standing_of file
unfolding standing_of
standing_by_slots file s is = is

-- calls that leave the file as it is
pub at_passed : {D : Type 0} (contents : D → Option (List ℕ)) (may_leave : D → List ℕ → Type 0)
    (moment : D → ℕ) (left_since : D → ℕ → List ℕ → Type 0) (old new : D) (file : List ℕ)
    → Passes contents may_leave moment left_since old new → IsAt contents may_leave old file → IsAt contents may_leave new file
at_passed contents may_leave moment left_since old new file passes here =
    record { told = passes.same ∙ here.told; only = λ c left. here.only c (passes.stop c left) }
