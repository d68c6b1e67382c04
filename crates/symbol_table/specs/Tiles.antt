-- What stands at a byte of an area: a symbol, or a gap between symbols.
use Rattle.std.specs.Prelude.{◌≡◌, ℕ, ◌+◌, ◌-◌, ◌<◌, ◌≤◌, Bool, false, IsTrue, slice_get, List}
use Rattle.std.specs.List.{list_any}
use Rattle.std.specs.Option.{option_map_or}
use Rattle.spec_plant.specs.Description.{Area, size_in}
use Rattle.spec_plant.specs.Covering.{is_byte_of}
use Rattle.symbol_table.specs.Tables.{TableSymbol, SymbolTable}
use Rattle.symbol_table.specs.declared.tile.Tile.{Tile}
use Rattle.symbol_table.specs.declared.tile.Tile.TheVariants as tile

-- a byte of an area belongs to a symbol
abbrev pub covers : Area → ℕ → TableSymbol → Bool
covers area k s = is_byte_of s.area s.offset s.size area k

-- whether a byte of an area belongs to one of these symbols
abbrev pub is_covered : List TableSymbol → Area → ℕ → Bool
is_covered symbols area k = list_any (covers area k) symbols

-- the greatest run of `len` bytes from `first` on, in an area of so many bytes, with the byte at `at`, that belong to no
-- symbol: the byte before it, and the byte behind it, belong to one, where they are in the area
pub record IsGap (symbols : List TableSymbol) (area : Area) (size at first len : ℕ) : Type 0 where
  pub begins : first ≤ at
  pub ends : at < first + len
  pub within : first + len ≤ size
  pub free : (k : ℕ) → first ≤ k → k < first + len → is_covered symbols area k ≡ false
  pub before : 0 < first → IsTrue (is_covered symbols area (first - 1))
  pub behind : first + len < size → IsTrue (is_covered symbols area (first + len))

-- the symbol to which the byte at `at` belongs, by its number, or the gap in which it stands
abbrev pub IsTileWithin : List TableSymbol → Area → ℕ → ℕ → Tile → Type 0
IsTileWithin symbols area size at (tile.Symbol n) = IsTrue (option_map_or (covers area at) (slice_get symbols n) false)
IsTileWithin symbols area size at (tile.Gap first len) = IsGap symbols area size at first len

-- the symbol or the gap at a byte of an area of the port
abbrev pub IsTileAt : SymbolTable → Area → ℕ → Tile → Type 0
IsTileAt table area at t = IsTileWithin table.symbols area (size_in table.sizes area) at t
