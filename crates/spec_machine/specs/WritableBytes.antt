-- Which bytes a machine may write, told by the symbols at which they stand.
use Rattle.std.specs.Prelude.{◌≡◌, ◌↔◌, ℕ, ◌+◌, ◌<◌, ◌≤◌, List, [], ◌∷◌, map, true, Some, slice_get}
use Rattle.spec_plant.specs.Description.{Area}
use Rattle.spec_plant.specs.World.{PlantPort, PlantSymbol, lower_name}
use Rattle.spec_plant.specs.Covering.{covers}
use Rattle.spec_plant.specs.Sound.{IsSoundPort}
use Rattle.spec_machine.specs.World.{name_at, names_at, symbol_names}
use Rattle.spec_machine.specs.Access.{WholeByte, OneBit}
use Rattle.spec_machine.specs.Writes.{is_writable_symbol, are_writable}

-- a machine may write each symbol of the port that stands at one of these bytes
abbrev pub MayWriteSymbolsAt : List ℕ → PlantPort → Area → ℕ → ℕ → Type 0
MayWriteSymbolsAt net p area offset len = (n : ℕ) (s : PlantSymbol) (i : ℕ) → slice_get p.symbols n ≡ Some s
    → offset ≤ i → i < offset + len → covers area i s ≡ true → is_writable_symbol net (Some s) ≡ true

-- Bytes of an area, or a bit of one, may be written exactly where the symbols that stand there may.
pub record WritableBySymbols (net : List ℕ) (p : PlantPort) (area : Area) (offset : ℕ) : Type 0 where
  pub bytes : (len : ℕ) → (are_writable net p (map WholeByte (names_at p area offset len)) ≡ true) ↔ MayWriteSymbolsAt net p area offset len
  pub bit : (k : ℕ) → (are_writable net p (OneBit (name_at p area offset) k ∷ []) ≡ true) ↔ MayWriteSymbolsAt net p area offset 1

abbrev pub WritesBySymbols : Type 0
WritesBySymbols = (net : List ℕ) (ports : List PlantPort) (p : PlantPort) (area : Area) (offset : ℕ) → IsSoundPort ports p
    → WritableBySymbols net p area offset

-- Bytes of a symbol, one at least, may be written exactly where the symbol may.
abbrev pub WritesInSymbol : Type 0
WritesInSymbol = (net : List ℕ) (ports : List PlantPort) (p : PlantPort) (n : ℕ) (s : PlantSymbol) (first len : ℕ) → IsSoundPort ports p
    → slice_get p.symbols n ≡ Some s → 0 < len
    → are_writable net p (map WholeByte (symbol_names p.number (lower_name s) first len)) ≡ is_writable_symbol net (Some s)
