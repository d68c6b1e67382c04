-- The count of wants never falls.
use Rattle.std.proofs.Common.{◌≤◌, subst}
use Rattle.replay_script.specs.ScriptWire.{PlayedScript}
use Rattle.replay_script.proofs.script_wire.ScriptWireWire.start.Goals as goal

pub returns-in-Err-clause-wanted : goal.returns-in-Err-clause-wanted
returns-in-Err-clause-wanted c = subst (λ (w : PlayedScript). w.wants ≤ c.want.new.self.wants) c.in-Err.ensures.no_memory c.want.ensures.later
