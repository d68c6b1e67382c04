-- Which slot of a file a value of `SlotText` or `StandingSlot` is.
use Rattle.std.specs.Prelude.{ℕ, Bool}
use Rattle.spec_store.specs.Slots.{Slot, Standing}
use Rattle.persist_store.specs.declared.slot_text.SlotText.{SlotText}
use Rattle.persist_store.specs.declared.standing_slot.StandingSlot.{StandingSlot}

-- the number of bytes of a slot with the longest body
abbrev pub MAX_SLOT : ℕ
MAX_SLOT = 1048589

abbrev pub slot_meant : SlotText → Slot
slot_meant s = record { sequence = s.sequence; body = s.body.now }

abbrev pub standing_kept : StandingSlot → Standing
standing_kept s = record { is_second = s.is_second; slot = record { sequence = s.sequence; body = s.body } }

-- a slot that stands as the second or the first one
abbrev pub placed : Bool → Slot → Standing
placed is_second slot = record { is_second = is_second; slot = slot }
