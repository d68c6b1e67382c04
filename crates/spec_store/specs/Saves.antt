-- A save: which slot it goes to, its number, and its calls of the disk. This project's own choice.
use Rattle.std.specs.Prelude.{ℕ, ◌+◌, ◌-◌, ◌^◌, List, [], ◌∷◌, ◌++◌, length, drop, Bool, false, ◌&&◌, ◌||◌}
use Rattle.std.specs.Prelude.{not, nat_lt, ◌==◌, if◌then◌else◌, Option, Some, None}
use Rattle.std.specs.Option.{option_map_or}
use Rattle.spec_store.specs.Slots.{MAX_BODY, SECOND_SLOT, Slot, behind_gate, is_open, Standing, standing_of}
use Rattle.spec_store.specs.Stops.{DiskCall, WriteAt, Sync}

-- the place of a slot
abbrev pub place_of : Bool → ℕ
place_of is_second = if is_second then SECOND_SLOT else 0

-- whether the next save goes to the second slot: to the slot that does not stand, and to the first where none does
abbrev pub goes_second : Option Standing → Bool
goes_second None = false
goes_second (Some s) = not s.is_second

-- the place of the next save
abbrev pub next_place : Option Standing → ℕ
next_place standing = place_of (goes_second standing)

-- the number of the next save
abbrev pub next_sequence : Option Standing → ℕ
next_sequence None = 1
next_sequence (Some s) = s.slot.sequence + 1

-- a save is refused by its limit: the body is too long, or the standing number is the greatest of 64 bits
abbrev pub is_over_limit : Option Standing → List ℕ → Bool
is_over_limit standing body =
    nat_lt MAX_BODY (length body)
    || option_map_or (λ (s : Standing). s.slot.sequence == 2 ^ 64 - 1) standing false

-- the slot that a save writes
abbrev pub next_slot : Option Standing → List ℕ → Slot
next_slot standing body = record { sequence = next_sequence standing; body = body }

-- what a file stands for after a save that is done
abbrev pub standing_after : Option Standing → List ℕ → Standing
standing_after standing body = record { is_second = goes_second standing; slot = next_slot standing body }

-- whether a gate at this place is in the file and is not open. It is left as it is: a stop in a write of it could open
-- it over a body that never stood.
abbrev pub has_closed_gate : ℕ → List ℕ → Bool
has_closed_gate place file = nat_lt place (length file) && not (is_open (drop place file))

-- the first step: the gate is closed, unless it is in the file and not open
abbrev pub calls_to_close : ℕ → List ℕ → List DiskCall
calls_to_close place file =
    if has_closed_gate place file then [] else WriteAt place (0 ∷ []) ∷ Sync ∷ []

-- the second step: all but the gate is written
abbrev pub calls_to_fill : ℕ → Slot → List DiskCall
calls_to_fill place slot = WriteAt (place + 1) (behind_gate slot) ∷ Sync ∷ []

-- the third step: the gate is opened
abbrev pub calls_to_open : ℕ → List DiskCall
calls_to_open place = WriteAt place (1 ∷ []) ∷ Sync ∷ []

-- the calls of a save into a file
abbrev pub calls_of_save : List ℕ → List ℕ → List DiskCall
calls_of_save file body =
    let place = next_place (standing_of file) in
    calls_to_close place file ++ (calls_to_fill place (next_slot (standing_of file) body) ++ calls_to_open place)
