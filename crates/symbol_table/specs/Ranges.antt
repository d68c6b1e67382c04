-- The symbols that have bytes of a range.
use Rattle.std.specs.Prelude.{◌≡◌, ℕ, ◌+◌, ◌<◌, ◌≤◌, List, IsTrue, true, Some, slice_get}
use Rattle.std.specs.List.{All, Contains}
use Rattle.spec_plant.specs.Description.{Area}
use Rattle.spec_plant.specs.World.{PlantSymbol}
use Rattle.spec_plant.specs.Covering as plant
use Rattle.symbol_table.specs.Tables.{TableSymbol}
use Rattle.symbol_table.specs.Tiles.{covers}
use Rattle.symbol_table.specs.PlaceOrders.{RiseByPlace}

-- one of `len` bytes of an area from `at` on belongs to the symbol with this number
pub record HasByteIn (symbols : List TableSymbol) (area : Area) (at len number : ℕ) : Type 0 where
  pub owner : TableSymbol
  pub there : slice_get symbols number ≡ Some owner
  pub byte : ℕ
  pub from : at ≤ byte
  pub upto : byte < at + len
  pub covered : IsTrue (covers area byte owner)

-- the numbers of the symbols to which these bytes belong, each of which lies before those behind it
pub record AreInRange (symbols : List TableSymbol) (area : Area) (at len : ℕ) (numbers : List ℕ) : Type 0 where
  pub each : All (HasByteIn symbols area at len) numbers
  pub whole : (byte n : ℕ) (s : TableSymbol) → at ≤ byte → byte < at + len → slice_get symbols n ≡ Some s
      → IsTrue (covers area byte s) → Contains numbers n
  pub rising : RiseByPlace symbols numbers

-- the same of the symbols of a plant's port

pub record StandsIn (symbols : List PlantSymbol) (area : Area) (at len number : ℕ) : Type 0 where
  pub owner : PlantSymbol
  pub there : slice_get symbols number ≡ Some owner
  pub byte : ℕ
  pub from : at ≤ byte
  pub upto : byte < at + len
  pub covered : plant.covers area byte owner ≡ true

pub record AllStandIn (symbols : List PlantSymbol) (area : Area) (at len : ℕ) (numbers : List ℕ) : Type 0 where
  pub each : All (StandsIn symbols area at len) numbers
  pub whole : (byte n : ℕ) (s : PlantSymbol) → at ≤ byte → byte < at + len → slice_get symbols n ≡ Some s
      → plant.covers area byte s ≡ true → Contains numbers n
