-- What the writes of a save are, by their places and bytes. This project's own choice.
use Rattle.std.specs.Prelude.{ℕ, ◌+◌, List, [], ◌∷◌, length, drop, Bool, ◌&&◌, ◌||◌, ◌==◌, nat_le, if◌then◌else◌, Option, Some, None, slice_index}
use Rattle.spec_store.specs.Slots.{SECOND_SLOT}

-- the body that a write puts into a slot: behind the sequence, of 8 bytes, and the length, of 4, which begin behind a gate
abbrev pub body_in_write : ℕ → List ℕ → Option (List ℕ)
body_in_write place bytes =
    if ((place == 1) || (place == SECOND_SLOT + 1)) && nat_le 12 (length bytes) then Some (drop 12 bytes) else None

-- whether a write opens the gate of a slot
abbrev pub is_opening : ℕ → List ℕ → Bool
is_opening place bytes = ((place == 0) || (place == SECOND_SLOT)) && (length bytes == 1) && (slice_index bytes 0 == 1)
