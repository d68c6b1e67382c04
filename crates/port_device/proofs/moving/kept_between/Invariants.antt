use Rattle.std.proofs.Common.{◌≡◌, List, ◌++◌, drop}
use Rattle.std.specs.List.{All}
use Rattle.spec_plant.specs.Listed.{NamedType}
use Rattle.symbol_table.specs.Moves.{IsKeptPlace}
use Rattle.port_device.specs.KeptSymbols.{kept_symbols_of}
use Rattle.port_device.specs.Moved.{entries_between, HasTypes}
use Rattle.port_device.specs.Reloaded.{AreCompared}
use Rattle.port_device.proofs.moving.kept_between.Given as goal

-- the entries so far and those of the ports that are left are the entries of all ports
abbrev pub invariant-loop-port : goal.invariant-loop-port
invariant-loop-port l = record {
  fit : All IsKeptPlace l.kept;
  left : (before types : List NamedType) → AreCompared before types l.same → All (HasTypes before) l.old → All (HasTypes types) l.new.ports
      → kept_symbols_of l.kept ++ entries_between (drop l.port-index l.old) l.new.ports ≡ entries_between l.old l.new.ports;
}
