-- For private contracts, and cited by no public clause: the symbols of an area before and behind a byte.
use Rattle.std.specs.Prelude.{◌≡◌, ℕ, ◌+◌, ◌-◌, ◌<◌, ◌≤◌, List, length, Bool, true, false, ◌&&◌, ◌||◌, not, nat_lt, nat_le, Some, slice_get}
use Rattle.spec_plant.specs.Description.{Area}
use Rattle.spec_plant.specs.World.{area_number, is_same_area}
use Rattle.symbol_table.specs.Tables.{TableSymbol}
use Rattle.symbol_table.specs.Tiles.{is_covered}

-- a symbol that lies in an earlier area, or begins at this byte or before it
abbrev pub begins_by : Area → ℕ → TableSymbol → Bool
begins_by area at s = nat_lt (area_number s.area) (area_number area) || (is_same_area s.area area && nat_le s.offset at)

-- a symbol that ends by this byte, where it lies in the area
abbrev pub ends_by : Area → ℕ → TableSymbol → Bool
ends_by area size s = not (is_same_area s.area area) || nat_le (s.offset + s.size) size

-- a symbol that lies in an earlier area, or ends by this byte
abbrev pub has_ended : Area → ℕ → TableSymbol → Bool
has_ended area at s =
    nat_lt (area_number s.area) (area_number area) || (is_same_area s.area area && nat_le (s.offset + s.size) at)

-- P of each symbol among these first numbers of an order, and of each of the others
abbrev pub EachBefore : List TableSymbol → List ℕ → ℕ → (TableSymbol → Type 0) → Type 0
EachBefore symbols numbers count P =
    (i m : ℕ) (s : TableSymbol) → i < count → slice_get numbers i ≡ Some m → slice_get symbols m ≡ Some s → P s

abbrev pub EachBehind : List TableSymbol → List ℕ → ℕ → (TableSymbol → Type 0) → Type 0
EachBehind symbols numbers count P =
    (i m : ℕ) (s : TableSymbol) → count ≤ i → slice_get numbers i ≡ Some m → slice_get symbols m ≡ Some s → P s

-- so many symbols, and no others, begin by a byte
pub record HasBegun (symbols : List TableSymbol) (numbers : List ℕ) (area : Area) (at count : ℕ) : Type 0 where
  pub within : count ≤ length numbers
  pub before : EachBefore symbols numbers count (λ s. begins_by area at s ≡ true)
  pub behind : EachBehind symbols numbers count (λ s. begins_by area at s ≡ false)

-- so many symbols, and no others, end by a byte
pub record HasEnded (symbols : List TableSymbol) (numbers : List ℕ) (area : Area) (at count : ℕ) : Type 0 where
  pub within : count ≤ length numbers
  pub before : EachBefore symbols numbers count (λ s. has_ended area at s ≡ true)
  pub behind : EachBehind symbols numbers count (λ s. has_ended area at s ≡ false)

-- of the symbols of the area that begin by the byte, the one with this number ends last, at `end`
pub record EndsLast (symbols : List TableSymbol) (area : Area) (at : ℕ) (found : ℕ × ℕ) : Type 0 where
  pub owner : TableSymbol
  pub there : slice_get symbols found.0 ≡ Some owner
  pub area_is : is_same_area owner.area area ≡ true
  pub begins : owner.offset ≤ at
  pub end : found.1 ≡ owner.offset + owner.size
  pub last : (n : ℕ) (s : TableSymbol) → slice_get symbols n ≡ Some s → is_same_area s.area area ≡ true → s.offset ≤ at → s.offset + s.size ≤ found.1

-- no symbol of the area begins by the byte
abbrev pub HasNoneBefore : List TableSymbol → Area → ℕ → Type 0
HasNoneBefore symbols area at = (n : ℕ) (s : TableSymbol) → slice_get symbols n ≡ Some s → is_same_area s.area area ≡ true → at < s.offset

-- of the symbols of the area that begin behind the byte, one begins first, at `start`
pub record BeginsFirst (symbols : List TableSymbol) (area : Area) (at start : ℕ) : Type 0 where
  pub number : ℕ
  pub owner : TableSymbol
  pub there : slice_get symbols number ≡ Some owner
  pub area_is : is_same_area owner.area area ≡ true
  pub behind : at < start
  pub begins : owner.offset ≡ start
  pub first : (n : ℕ) (s : TableSymbol) → slice_get symbols n ≡ Some s → is_same_area s.area area ≡ true → at < s.offset → start ≤ s.offset

-- no symbol of the area begins behind the byte
abbrev pub HasNoneBehind : List TableSymbol → Area → ℕ → Type 0
HasNoneBehind symbols area at = (n : ℕ) (s : TableSymbol) → slice_get symbols n ≡ Some s → is_same_area s.area area ≡ true → s.offset ≤ at

-- a gap round the byte may begin here: no symbol's byte is behind this, up to the byte
pub record StartsGap (symbols : List TableSymbol) (area : Area) (at start : ℕ) : Type 0 where
  pub begins : start ≤ at
  pub free : (n : ℕ) (s : TableSymbol) → slice_get symbols n ≡ Some s → is_same_area s.area area ≡ true → s.offset ≤ at → s.offset + s.size ≤ start
  pub before : 0 < start → is_covered symbols area (start - 1) ≡ true

-- and may end here, in an area of so many bytes
pub record EndsGap (symbols : List TableSymbol) (area : Area) (at size end : ℕ) : Type 0 where
  pub ends : at < end
  pub within : end ≤ size
  pub free : (n : ℕ) (s : TableSymbol) → slice_get symbols n ≡ Some s → is_same_area s.area area ≡ true → at < s.offset → end ≤ s.offset
  pub behind : end < size → is_covered symbols area end ≡ true
