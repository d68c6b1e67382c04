-- What the code keeps beside the rows of the table. No public clause cites this file.
use Rattle.std.specs.Prelude.{ℕ, List, IsTrue}
use Rattle.std.specs.List.{list_all}
use Rattle.spec_plant.specs.Description.{Sizes}
use Rattle.name_index.specs.Numbered.{NameNumbers}
use Rattle.symbol_table.specs.Tables.{TableSymbol}
use Rattle.symbol_table.specs.Names.{AreNamesOf}
use Rattle.symbol_table.specs.NameKeys.{NameKey}
use Rattle.symbol_table.specs.NamesInOrder.{AreKeysOf}
use Rattle.symbol_table.specs.PlaceOrders.{has_bytes, is_within, IsPlaceOrder}

-- these symbols' names, their names in order and their numbers in the order of their places; each has bytes, which are
-- in its area
pub record IsSoundTable (sizes : Sizes) (symbols : List TableSymbol) (names : NameNumbers) (keys : List NameKey) (numbers : List ℕ) : Type 0 where
  pub names_are : AreNamesOf symbols names
  pub keys_are : AreKeysOf symbols keys
  pub order : IsPlaceOrder symbols numbers
  pub bytes : IsTrue (list_all has_bytes symbols)
  pub within : IsTrue (list_all (is_within sizes) symbols)
