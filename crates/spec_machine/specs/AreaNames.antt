-- Which names the bytes of an area have: that of the symbol at an offset, or the area's where none stands; and no two
-- bytes of a port have one name.
use Rattle.std.specs.Prelude.{◌≡◌, ◌≢◌, ℕ, ◌+◌, ◌-◌, ◌≤◌, Bool, true, false, Some, slice_get}
use Rattle.std.specs.List.{list_any}
use Rattle.spec_plant.specs.Description.{Area}
use Rattle.spec_plant.specs.World.{PlantPort, PlantSymbol, symbol_size, lower_name}
use Rattle.spec_plant.specs.World.{SymbolPart, AreaPart, StatePart, ByteName}
use Rattle.spec_plant.specs.Covering.{covers}
use Rattle.spec_plant.specs.Named.{AreNamedApart}
use Rattle.spec_plant.specs.Sound.{AreApart}
use Rattle.spec_machine.specs.World.{name_at, names_at, symbol_names}

-- the name of a symbol's byte
abbrev pub name_in_symbol : ℕ → PlantSymbol → ℕ → ByteName
name_in_symbol port s index = record { port = port; part = SymbolPart (lower_name s); index = index }

-- the name of a byte of an area at which no symbol stands
abbrev pub name_in_gap : ℕ → Area → ℕ → ByteName
name_in_gap port area offset = record { port = port; part = AreaPart area; index = offset }

-- whether a symbol of the port stands at a byte
abbrev pub is_covered : PlantPort → Area → ℕ → Bool
is_covered p area offset = list_any (covers area offset) p.symbols

-- the name of a byte, where this symbol stands there, and where none does
pub record NamedByTile (p : PlantPort) (area : Area) (offset : ℕ) : Type 0 where
  pub symbol : (n : ℕ) (s : PlantSymbol) → slice_get p.symbols n ≡ Some s → covers area offset s ≡ true
      → name_at p area offset ≡ name_in_symbol p.number s (offset - s.offset)
  pub gap : is_covered p area offset ≡ false → name_at p area offset ≡ name_in_gap p.number area offset

-- The symbol or the gap at an offset gives the name of the byte there.
abbrev pub TilesGiveNames : Type 0
TilesGiveNames = (p : PlantPort) (area : Area) (offset : ℕ) → AreApart p.symbols → NamedByTile p area offset

-- Bytes of a symbol in a row are bytes of its area in a row, and have the symbol's names.
abbrev pub SpansGiveNames : Type 0
SpansGiveNames = (p : PlantPort) (n : ℕ) (s : PlantSymbol) (first len : ℕ) → AreApart p.symbols
    → slice_get p.symbols n ≡ Some s → first + len ≤ symbol_size s
    → names_at p s.area (s.offset + first) len ≡ symbol_names p.number (lower_name s) first len

-- two bytes of a port's areas are one
pub record IsOneByte (area other : Area) (offset place : ℕ) : Type 0 where
  pub same_area : area ≡ other
  pub same_offset : offset ≡ place

-- No two bytes of a port's areas have one name, where its symbols' names differ.
abbrev pub NamesAreOneToOne : Type 0
NamesAreOneToOne = (p : PlantPort) (area other : Area) (offset place : ℕ) → AreNamedApart p.symbols
    → name_at p area offset ≡ name_at p other place → IsOneByte area other offset place

-- a byte of an area has a name of its port, which is none of the state words
pub record IsNameOfArea (p : PlantPort) (n : ByteName) : Type 0 where
  pub port : n.port ≡ p.number
  pub part : n.part ≢ StatePart

abbrev pub NamesAreOfAreas : Type 0
NamesAreOfAreas = (p : PlantPort) (area : Area) (offset : ℕ) → IsNameOfArea p (name_at p area offset)
