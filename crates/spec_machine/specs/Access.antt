-- What an access addresses: bytes, or one bit of a byte; what is read there, and what is put there.
use Rattle.std.specs.Prelude.{ℕ, ◌+◌, ◌-◌, ◌*◌, ◌^◌, ◌/◌, ◌%◌, min, List, [], ◌∷◌, map}
use Rattle.spec_plant.specs.World.{ByteName, Block, byte_or_zero, with_byte}

-- a byte, or one bit of a byte
pub data Addressed : Type 0 where
  WholeByte : ByteName → Addressed
  OneBit : ByteName → ℕ → Addressed

abbrev pub addressed_name : Addressed → ByteName
addressed_name (WholeByte n) = n
addressed_name (OneBit n bit) = n

-- what is read there: the byte, or 0 or 1
abbrev pub value_at : List Block → Addressed → ℕ
value_at memory (WholeByte n) = byte_or_zero memory n
value_at memory (OneBit n bit) = (byte_or_zero memory n / 2 ^ bit) % 2

abbrev pub values_at : List Block → List Addressed → List ℕ
values_at memory places = map (value_at memory) places

-- a byte with one of its bits set or cleared
abbrev pub with_bit : ℕ → ℕ → ℕ → ℕ
with_bit bit value byte = (byte - (byte / 2 ^ bit) % 2 * 2 ^ bit) + value * 2 ^ bit

-- a value, and where it is put
pub record Put : Type 0 where
  pub place : Addressed
  pub value : ℕ

-- the byte after that; as a bit, 0 clears and any other value sets
abbrev pub byte_after : Addressed → ℕ → ℕ → ℕ
byte_after (WholeByte n) value byte = value
byte_after (OneBit n bit) value byte = with_bit bit (min value 1) byte

abbrev pub memory_after_put : List Block → Put → List Block
memory_after_put memory p = with_byte memory (addressed_name p.place) (byte_after p.place p.value)

unfoldable pub memory_after_puts : List Block → List Put → List Block
memory_after_puts memory [] = memory
memory_after_puts memory (p ∷ ps) = memory_after_puts (memory_after_put memory p) ps

-- bytes, each put where a read would have come from
abbrev pub puts_of : List Addressed → List ℕ → List Put
puts_of [] bytes = []
puts_of (place ∷ places) [] = []
puts_of (place ∷ places) (b ∷ bytes) =
    record { place = place; value = b } ∷ puts_of places bytes
