-- What an access to a byte, bit or size group names, or the code that refuses it.
-- Beckhoff Information System, "Index Group/Offset Specification"; the codes are this project's own choice.
use Rattle.std.specs.Prelude.{ℕ, ◌+◌, ◌/◌, ◌%◌, Option, Some, Result, Ok, Err, nat_lt, nat_le, ◌==◌, ◌||◌, if◌then◌else◌}
use Rattle.spec_plant.specs.Description.{Area, Sizes, size_in}
use Rattle.spec_formats.specs.Codes.{invalid_group, invalid_offset, invalid_size}
use Rattle.spec_formats.specs.Groups.{Group, AreaBytes, AreaBit, AreaSize, group_of}

-- so many bytes of an area from a place on; one bit of a byte of an area, the lowest is 0; or the area's size
pub data Range : Type 0 where
  Bytes : (area : Area) (offset len : ℕ) → Range
  Bit : (area : Area) (offset bit : ℕ) → Range
  Size : (area : Area) → Range

-- the most bytes that one access may ask
abbrev pub greatest_len : ℕ
greatest_len = 2_000_000

-- an offset above the size comes first, and the offset at the end with no byte is in range
unfoldable pub byte_range : Area → ℕ → ℕ → ℕ → Result Range ℕ
byte_range area size offset len =
    if nat_lt size offset then Err invalid_offset
    else if nat_lt size (offset + len) || nat_lt greatest_len len then Err invalid_size
    else Ok (Bytes area offset len)

-- the offset counts bits: byte number times 8 plus bit number
unfoldable pub bit_range : Area → ℕ → ℕ → ℕ → Result Range ℕ
bit_range area size offset len =
    if nat_le size (offset / 8) then Err invalid_offset
    else if len == 1 then Ok (Bit area (offset / 8) (offset % 8))
    else Err invalid_size

-- the size is 4 bytes, and the offset is not looked at
unfoldable pub size_range : Area → ℕ → Result Range ℕ
size_range area len = if nat_lt len 4 then Err invalid_size else Ok (Size area)

unfoldable pub range_in : Option Group → Sizes → ℕ → ℕ → Result Range ℕ
range_in (Some (AreaBytes area)) sizes offset len = byte_range area (size_in sizes area) offset len
range_in (Some (AreaBit area)) sizes offset len = bit_range area (size_in sizes area) offset len
range_in (Some (AreaSize area)) sizes offset len = size_range area len
range_in _ sizes offset len = Err invalid_group

-- what the access names, where these are the sizes of the areas
unfoldable pub range_of : Sizes → ℕ → ℕ → ℕ → Result Range ℕ
range_of sizes group offset len = range_in (group_of group) sizes offset len
