-- The content of an area: its symbols' bytes and its gaps one behind another; and what reads and writes of it are.
use Rattle.std.specs.Prelude.{◌≡◌, ◌≢◌, ℕ, ◌+◌, ◌<◌, ◌≤◌, List, [], ◌∷◌, ◌++◌, length, take, drop, map, false, None}
use Rattle.std.specs.Prelude.{Some, slice_get}
use Rattle.spec_plant.specs.Description.{Area, size_in}
use Rattle.spec_plant.specs.World.{PlantPort, PlantSymbol, symbol_size, lower_name, SymbolPart, AreaPart, Block}
use Rattle.spec_plant.specs.World.{block_of, byte_at}
use Rattle.spec_plant.specs.Named.{AreNamedApart}
use Rattle.spec_plant.specs.Sound.{AreApart}
use Rattle.spec_machine.specs.World.{name_at, names_at, content_of}
use Rattle.spec_machine.specs.Access.{WholeByte, values_at, puts_of, memory_after_puts}
use Rattle.spec_machine.specs.AreaNames.{is_covered}

-- what stands at bytes of an area in a row: a symbol, or so many bytes of none
pub data Tile : Type 0 where
  SymbolTile : PlantSymbol → Tile
  GapTile : ℕ → Tile

abbrev pub tile_len : Tile → ℕ
tile_len (SymbolTile s) = symbol_size s
tile_len (GapTile len) = len

-- a symbol of the port stands at an offset of an area
pub record StandsFrom (p : PlantPort) (area : Area) (offset : ℕ) (s : PlantSymbol) : Type 0 where
  pub number : ℕ
  pub there : slice_get p.symbols number ≡ Some s
  pub same_area : s.area ≡ area
  pub same_offset : s.offset ≡ offset

-- a tile stands at an offset of an area
abbrev pub IsTileFrom : PlantPort → Area → ℕ → Tile → Type 0
IsTileFrom p area offset (SymbolTile s) = StandsFrom p area offset s
IsTileFrom p area offset (GapTile len) = (i : ℕ) → offset ≤ i → i < offset + len → is_covered p area i ≡ false

-- these tiles stand one behind another, from an offset of an area to its end
abbrev pub AreTilesFrom : PlantPort → Area → ℕ → List Tile → Type 0
AreTilesFrom p area offset [] = offset ≡ size_in p.sizes area
AreTilesFrom p area offset (t ∷ ts) = IsTileFrom p area offset t × AreTilesFrom p area (offset + tile_len t) ts

-- the bytes of a tile
abbrev pub tile_bytes : List Block → PlantPort → Area → ℕ → Tile → List ℕ
tile_bytes memory p area offset (SymbolTile s) = block_of memory p.number (SymbolPart (lower_name s))
tile_bytes memory p area offset (GapTile len) = take len (drop offset (block_of memory p.number (AreaPart area)))

abbrev pub bytes_of_tiles : List Block → PlantPort → Area → ℕ → List Tile → List ℕ
bytes_of_tiles memory p area offset [] = []
bytes_of_tiles memory p area offset (t ∷ ts) =
    tile_bytes memory p area offset t ++ bytes_of_tiles memory p area (offset + tile_len t) ts

-- each symbol, and each area, has as many bytes as the plant says
pub record HasItsBytes (memory : List Block) (p : PlantPort) : Type 0 where
  pub symbols : (n : ℕ) (s : PlantSymbol) → slice_get p.symbols n ≡ Some s
      → length (block_of memory p.number (SymbolPart (lower_name s))) ≡ symbol_size s
  pub areas : (area : Area) → length (block_of memory p.number (AreaPart area)) ≡ size_in p.sizes area

-- The content of an area is the bytes of its tiles.
abbrev pub ContentIsOfTiles : Type 0
ContentIsOfTiles = (memory : List Block) (p : PlantPort) (area : Area) (tiles : List Tile)
    → AreApart p.symbols → HasItsBytes memory p → AreTilesFrom p area 0 tiles
    → content_of memory p area ≡ bytes_of_tiles memory p area 0 tiles

-- Bytes of an area that are read are those of its content.
abbrev pub ReadsContent : Type 0
ReadsContent = (p : PlantPort) (area : Area) (offset len : ℕ) (memory : List Block)
    → offset + len ≤ size_in p.sizes area
    → values_at memory (map WholeByte (names_at p area offset len))
    ≡ take len (drop offset (content_of memory p area))

-- each byte of an area is there
abbrev pub IsThere : List Block → PlantPort → Area → Type 0
IsThere memory p area = (i : ℕ) → i < size_in p.sizes area → byte_at memory (name_at p area i) ≢ None

-- A write puts its bytes into the content of an area, and leaves all others.
abbrev pub WritesContent : Type 0
WritesContent = (p : PlantPort) (area : Area) (offset : ℕ) (bytes : List ℕ) (memory : List Block)
    → offset + length bytes ≤ size_in p.sizes area → IsThere memory p area → AreNamedApart p.symbols
    → content_of (memory_after_puts memory (puts_of (map WholeByte (names_at p area offset (length bytes))) bytes)) p area
    ≡ take offset (content_of memory p area)
    ++ (bytes ++ drop (offset + length bytes) (content_of memory p area))
