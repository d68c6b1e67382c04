-- Lines that fail offers were read.
use Rattle.std.proofs.Common.{◌≡◌, ◌-◌, length}
use Rattle.replay_script.specs.ScriptWire.{state_of_played}
use Rattle.replay_script.proofs.script_wire.ScriptWire.give.Given as goal

abbrev pub invariant-loop-conn : goal.invariant-loop-conn
invariant-loop-conn l = record {
  told : state_of_played l.self ≡ state_of_played l.initial.self;
  lines : l.self.lines ≡ l.initial.self.lines;
}

abbrev pub decreases-loop-conn : goal.decreases-loop-conn
decreases-loop-conn l = length l.initial.self.lines - l.self.at
