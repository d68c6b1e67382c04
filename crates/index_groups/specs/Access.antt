-- Which range of the protocol a value of `Reach` is, and where it lies.
use Rattle.std.specs.Prelude.{ℕ, ◌+◌, ◌<◌, ◌≤◌, ◌^◌, Result, Ok, Err}
use Rattle.spec_plant.specs.Description as plant
use Rattle.spec_formats.specs.Ranges as range
use Rattle.type_layout.specs.Descriptions.{area_of}
use Rattle.return_codes.specs.declared.code.Code.{Code}
use Rattle.return_codes.specs.Code.{number_of}
use Rattle.index_groups.specs.declared.access.Reach.{Reach}
use Rattle.index_groups.specs.declared.access.Reach.TheVariants as value

abbrev pub range_meant : Reach → range.Range
range_meant (value.Bytes area offset len) = range.Bytes (area_of area) offset len
range_meant (value.Bit area offset bit) = range.Bit (area_of area) offset bit
range_meant (value.Size area) = range.Size (area_of area)

abbrev pub answer_meant : Result Reach Code → Result range.Range ℕ
answer_meant (Ok reach) = Ok (range_meant reach)
answer_meant (Err code) = Err (number_of code)

-- so many bytes from an offset on lie in an area of this size
pub record HoldsBytes (size offset len : ℕ) : Type 0 where
  pub ends : offset + len ≤ size
  pub starts : offset < 2 ^ 32
  pub short : len ≤ range.greatest_len

-- a bit of a byte lies in an area of this size
pub record HoldsBit (size offset bit : ℕ) : Type 0 where
  pub byte : offset < size
  pub starts : offset < 2 ^ 29
  pub bit_of_byte : bit < 8

-- what is named lies within its area, where these are the sizes of the areas
abbrev pub IsWithin : plant.Sizes → Reach → Type 0
IsWithin sizes (value.Bytes area offset len) = HoldsBytes (plant.size_in sizes (area_of area)) offset len
IsWithin sizes (value.Bit area offset bit) = HoldsBit (plant.size_in sizes (area_of area)) offset bit
IsWithin sizes (value.Size area) = Unit {0}
