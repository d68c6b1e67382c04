-- A script that is to be played over a store.
use Rattle.std.specs.Prelude.{List}
use Rattle.signals.specs.Wave.{Wave}
use Rattle.spec_plant.specs.Description.{Description}
use Rattle.spec_machine.specs.ScriptLine.{ScriptLine}

-- the lines of a script, and the server of a description with these signals
pub record Keeping : Type 0 where
  pub description : Description
  pub waves : List Wave
  pub lines : List ScriptLine

abbrev pub keeping : Description → List Wave → List ScriptLine → Keeping
keeping d waves lines = record { description = d; waves = waves; lines = lines }
