-- Which slot a value of `SlotLent` is.
use Rattle.spec_store.specs.Slots.{Slot}
use Rattle.store_file.specs.declared.slots.SlotLent.{SlotLent}

abbrev pub slot_lent : SlotLent → Slot
slot_lent s = record { sequence = s.sequence; body = s.body.now }
