-- What is damaged in a store's file: a save and a stop in it leave gates of 0 and 1 alone, and behind an open gate a slot that
-- counts. This project's own choice.
use Rattle.std.specs.Prelude.{ℕ, List, [], ◌∷◌, ◌==◌, if◌then◌else◌, Option, option_map}
use Rattle.spec_store.specs.Slots.{Standing, counts, slot_of, standing_of_slots}
use Rattle.store_file.specs.declared.slots.SlotDamage.{SlotDamage}
use Rattle.store_file.specs.declared.slots.SlotDamage.TheVariants as damage

-- of the slot at the front of a text: nothing where its gate is closed or not in the file
abbrev pub damage_in_slot : List ℕ → SlotDamage
damage_in_slot [] = damage.Whole
damage_in_slot (gate ∷ rest) =
    if gate == 0 then damage.Whole else
    (if gate == 1 then (if counts (gate ∷ rest) then damage.Whole else damage.Unreadable) else damage.NoGate)

-- the body that two slots stand for
abbrev pub body_of_slots : List ℕ → List ℕ → Option (List ℕ)
body_of_slots first second = option_map (λ (s : Standing). s.slot.body) (standing_of_slots (slot_of first) (slot_of second))
