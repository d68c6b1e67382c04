-- The count of wants never falls.
use Rattle.std.proofs.Common.{◌≤◌, subst}
use Rattle.ads_outside.specs.WireState.{WireState}
use Rattle.replay_script.proofs.script_wire.ScriptWireWire.next.Goals as goal

pub returns-in-Err-clause-wanted : goal.returns-in-Err-clause-wanted
returns-in-Err-clause-wanted c = subst (λ (w : WireState). w.wants ≤ c.want.new.self.wants) c.in-Err.ensures.no_memory c.want.ensures.later
