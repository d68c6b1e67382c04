-- What a run does to the rows of a table.
use Rattle.std.specs.Prelude.{◌≡◌, ◌≤◌, ◌+◌, List, ◌++◌, length, Option, Some, None}
use Rattle.spec_samples.specs.Row.{Row}
use Rattle.spec_samples.specs.Laws.{AreCountedFrom}

-- at most a million rows stand behind them, which are numbered on
pub record RowsAdded (rows : List Row) (new : Option (List Row)) : Type 0 where
  pub more : List Row
  pub is : new ≡ Some (rows ++ more)
  pub numbers : AreCountedFrom (length rows + 1) more
  pub few : length more ≤ 1000000

-- where they are told
abbrev pub AddsRows : Option (List Row) → Option (List Row) → Type 0
AddsRows None new = Unit {0}
AddsRows (Some rows) new = RowsAdded rows new
