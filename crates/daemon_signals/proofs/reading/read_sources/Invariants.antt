use Rattle.std.proofs.Common.{◌≡◌, take, map}
use Rattle.daemon_signals.specs.Values.{ArePlayed}
use Rattle.signals.specs.Wave.{Wave}
use Rattle.daemon_signals.specs.contracts.played.PlayedSignal.TheImpl as played
use Rattle.daemon_signals.proofs.reading.read_sources.Given as goal

-- the signals so far are those of the tables before this one
abbrev pub invariant-loop-table : goal.invariant-loop-table
invariant-loop-table g l = record {
  played : ArePlayed (take l.table-index l.tables) (map played.ghosts.wave l.list);
  held : (g.F.Files.state l.files).held ≡ (g.F.Files.state l.initial.files).held;
}
