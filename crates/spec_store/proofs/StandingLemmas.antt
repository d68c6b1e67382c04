-- Which of two slots a file stands for, and after a save.
use Rattle.std.proofs.Common.{◌≡◌, ℕ, ◌+◌, List, true, false, refl, inl, inr, arith}
use Rattle.std.specs.Prelude.{Option, Some, None, nat_le}
use Rattle.std.proofs.lemmas.Bool.{cases_Bool, le-leb, lt-leb, true≢false, false≢true}
use Rattle.spec_store.specs.Slots.{Slot, standing_of_slots}
use Rattle.spec_store.specs.Saves.{goes_second, next_slot, standing_after}

-- the slot that a save goes to is not missed
pub without_first : (x y : Option Slot) → goes_second (standing_of_slots x y) ≡ false → standing_of_slots None y ≡ standing_of_slots x y
without_first None y e = refl
without_first (Some a) None e = absurd (true≢false e)
without_first (Some a) (Some b) e = elim (cases_Bool (nat_le b.sequence a.sequence)) [
  | inl t ↦ absurd (true≢false (rw t at e))
  | inr t ↦ rw t refl
]

pub without_second : (x y : Option Slot) → goes_second (standing_of_slots x y) ≡ true → standing_of_slots x None ≡ standing_of_slots x y
without_second None None e = absurd (false≢true e)
without_second None (Some b) e = absurd (false≢true e)
without_second (Some a) None e = refl
without_second (Some a) (Some b) e = elim (cases_Bool (nat_le b.sequence a.sequence)) [
  | inl t ↦ rw t refl
  | inr t ↦ absurd (false≢true (rw t at e))
]

-- a save goes to the second slot where the first one counts
pub first_there : (x y : Option Slot) → goes_second (standing_of_slots x y) ≡ true → (a : Slot) × (x ≡ Some a)
first_there None None e = absurd (false≢true e)
first_there None (Some b) e = absurd (false≢true e)
first_there (Some a) y e = (a, refl)

-- the new slot is the later one
pub with_first : (x y : Option Slot) (body : List ℕ) → goes_second (standing_of_slots x y) ≡ false
    → standing_of_slots (Some (next_slot (standing_of_slots x y) body)) y ≡ Some (standing_after (standing_of_slots x y) body)
with_first None None body e = refl
with_first None (Some b) body e = let t = le-leb b.sequence (b.sequence + 1) (omega arith) in rw t refl
with_first (Some a) None body e = absurd (true≢false e)
with_first (Some a) (Some b) body e = elim (cases_Bool (nat_le b.sequence a.sequence)) [
  | inl t ↦ absurd (true≢false (rw t at e))
  | inr t ↦ let u = le-leb b.sequence (b.sequence + 1) (omega arith) in rw t (rw u refl)
]

pub with_second : (x y : Option Slot) (body : List ℕ) → goes_second (standing_of_slots x y) ≡ true
    → standing_of_slots x (Some (next_slot (standing_of_slots x y) body)) ≡ Some (standing_after (standing_of_slots x y) body)
with_second None None body e = absurd (false≢true e)
with_second None (Some b) body e = absurd (false≢true e)
with_second (Some a) None body e = let t = lt-leb (a.sequence + 1) a.sequence (omega arith) in rw t refl
with_second (Some a) (Some b) body e = elim (cases_Bool (nat_le b.sequence a.sequence)) [
  | inl t ↦ let u = lt-leb (a.sequence + 1) a.sequence (omega arith) in rw t (rw u refl)
  | inr t ↦ absurd (false≢true (rw t at e))
]
