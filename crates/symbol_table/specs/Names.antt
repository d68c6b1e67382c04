-- For private contracts, and cited by no public clause: symbols' numbers under their names.
use Rattle.std.specs.Prelude.{ℕ, List, map}
use Rattle.name_index.specs.Numbered.{NameNumbers, AreNumbered}
use Rattle.symbol_table.specs.Tables.{TableSymbol}

abbrev pub name_of_symbol : TableSymbol → List ℕ
name_of_symbol s = s.name

-- the entries give each name in lower case the number of the first symbol with it
abbrev pub AreNamesOf : List TableSymbol → NameNumbers → Type 0
AreNamesOf symbols names = AreNumbered (map name_of_symbol symbols) names
