-- The two slots of a store's file, and what the file stands for. This project's own format.
use Rattle.std.specs.Prelude.{ℕ, ◌+◌, List, ◌++◌, length, take, drop, slice_index, Bool, true, false, ◌&&◌}
use Rattle.std.specs.Prelude.{◌==◌, nat_le, if◌then◌else◌, Option, Some, None, option_map}
use Rattle.std.specs.Int.{w32, w64, to_le_bytes}
use Rattle.spec_formats.specs.Numbers.{number32, number64}
use Rattle.spec_store.specs.BodyText.{is_body_text}

-- the greatest length of a body
abbrev pub MAX_BODY : ℕ
MAX_BODY = 1048576

-- where the second slot stands; the first stands at byte 0
abbrev pub SECOND_SLOT : ℕ
SECOND_SLOT = 1048592

-- a body, with the number that tells the later one of two
pub record Slot : Type 0 where
  pub sequence : ℕ
  pub body : List ℕ

-- what stands behind the gate: sequence 8, body length 4, body
abbrev pub behind_gate : Slot → List ℕ
behind_gate s = to_le_bytes w64 s.sequence ++ to_le_bytes w32 (length s.body) ++ s.body

-- an open gate is 1
abbrev pub is_open : List ℕ → Bool
is_open text = slice_index text 0 == 1

-- the body's length as the slot tells it, and so many bytes behind it
abbrev pub body_length : List ℕ → ℕ
body_length text = number32 9 text

abbrev pub body_at : List ℕ → List ℕ
body_at text = take (body_length text) (drop 13 text)

-- whether a slot at the front of a text counts: its gate is open, its length is small enough, its bytes are all there,
-- and its body is a body text
abbrev pub counts : List ℕ → Bool
counts text =
    is_open text && (nat_le (body_length text) MAX_BODY && nat_le (13 + body_length text) (length text))
    && is_body_text (body_at text)

-- the slot at the front of a text, where it counts
unfoldable pub slot_of : List ℕ → Option Slot
slot_of text = if counts text then Some (record { sequence = number64 1 text; body = body_at text }) else None

-- the slot that a file stands for: the second one or the first
pub record Standing : Type 0 where
  pub is_second : Bool
  pub slot : Slot

abbrev pub later_of : Slot → Slot → Standing
later_of first second =
    if nat_le second.sequence first.sequence
    then record { is_second = false; slot = first } else record { is_second = true; slot = second }

-- the counting slot of the greater sequence, and the first where they are equal
abbrev pub standing_of_slots : Option Slot → Option Slot → Option Standing
standing_of_slots None second = option_map (λ (s : Slot). record { is_second = true; slot = s }) second
standing_of_slots (Some first) None = Some (record { is_second = false; slot = first })
standing_of_slots (Some first) (Some second) = Some (later_of first second)

-- what a file stands for; nothing where no slot counts
unfoldable pub standing_of : List ℕ → Option Standing
standing_of file = standing_of_slots (slot_of file) (slot_of (drop SECOND_SLOT file))

-- the body that a file stands for
abbrev pub standing_body : List ℕ → Option (List ℕ)
standing_body file = option_map (λ (s : Standing). s.slot.body) (standing_of file)
