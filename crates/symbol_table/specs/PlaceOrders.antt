-- The symbols of a port in the order of their places.
use Rattle.std.specs.Prelude.{◌≡◌, ℕ, ◌+◌, ◌<◌, List, length, Bool, ◌&&◌, ◌||◌, not, nat_lt, nat_le, IsTrue, Some, slice_get}
use Rattle.std.specs.List.{All, Contains}
use Rattle.spec_plant.specs.Description.{Sizes, size_in}
use Rattle.spec_plant.specs.World.{area_number, is_same_area}
use Rattle.symbol_table.specs.Tables.{TableSymbol}

-- a symbol that has at least one byte
abbrev pub has_bytes : TableSymbol → Bool
has_bytes s = nat_lt 0 s.size

-- all bytes of a symbol are in its area
abbrev pub is_within : Sizes → TableSymbol → Bool
is_within sizes s = nat_le (s.offset + s.size) (size_in sizes s.area)

-- no byte belongs to both
abbrev pub lie_apart : TableSymbol → TableSymbol → Bool
lie_apart s t =
    not (is_same_area s.area t.area) || nat_le (s.offset + s.size) t.offset || nat_le (t.offset + t.size) s.offset

-- a symbol that lies in an earlier area, or ends in the same one before the other begins
abbrev pub lies_before : TableSymbol → TableSymbol → Bool
lies_before s t =
    nat_lt (area_number s.area) (area_number t.area)
    || (is_same_area s.area t.area && nat_le (s.offset + s.size) t.offset)

-- each of these symbols lies before those behind it
abbrev pub RiseByPlace : List TableSymbol → List ℕ → Type 0
RiseByPlace symbols numbers =
    (i j m n : ℕ) (s t : TableSymbol) → i < j → slice_get numbers i ≡ Some m → slice_get numbers j ≡ Some n
    → slice_get symbols m ≡ Some s → slice_get symbols n ≡ Some t → IsTrue (lies_before s t)

-- the numbers of all symbols, each of which lies before those behind it
pub record IsPlaceOrder (symbols : List TableSymbol) (numbers : List ℕ) : Type 0 where
  pub count : length numbers ≡ length symbols
  pub each : All (λ n. n < length symbols) numbers
  pub whole : (n : ℕ) → n < length symbols → Contains numbers n
  pub rising : RiseByPlace symbols numbers
