-- What a name leads to lies in a symbol of the port.
use Rattle.std.specs.Prelude.{◌≡◌, ℕ, ◌+◌, ◌≤◌, List, Some, slice_get}
use Rattle.spec_plant.specs.Sizes.{type_size}
use Rattle.spec_plant.specs.World.{PlantSymbol, symbol_size}
use Rattle.spec_plant.specs.Finding.{Found, found_of}

-- a part lies within its symbol, which is one of these
pub record LiesInSymbol (symbols : List PlantSymbol) (f : Found) : Type 0 where
  pub number : ℕ
  pub there : slice_get symbols number ≡ Some f.symbol
  pub ends : f.part.first + type_size f.part.type ≤ symbol_size f.symbol

-- What a name leads to lies within one of the symbols.
abbrev pub FoundLieInSymbols : Type 0
FoundLieInSymbols = (symbols : List PlantSymbol) (name : List ℕ) (f : Found) → found_of symbols name ≡ Some f → LiesInSymbol symbols f
