-- Symbols before what is left begin by the byte, those behind it do not.
use Rattle.std.proofs.Common.{◌-◌}
use Rattle.type_layout.specs.Descriptions.{area_of}
use Rattle.symbol_table.specs.Rows.{symbols_of_rows}
use Rattle.symbol_table.proofs.PlaceSearch.{Halved}
use Rattle.symbol_table.proofs.tiling.begun.Given as goal

abbrev pub invariant-loop-low : goal.invariant-loop-low
invariant-loop-low l = Halved (symbols_of_rows l.rows) l.numbers (area_of l.area) l.«at» l.low l.high

abbrev pub decreases-loop-low : goal.decreases-loop-low
decreases-loop-low l = l.high - l.low
