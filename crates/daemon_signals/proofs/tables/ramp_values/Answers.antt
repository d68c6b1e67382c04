-- One value more.
use Rattle.std.proofs.Common.{rules}
use Rattle.daemon_signals.specs.Values.{ramp_values}
use Rattle.daemon_signals.proofs.TableLemmas.{ramp_next}
use Rattle.daemon_signals.proofs.tables.ramp_values.Goals as goal

pub loop-n-init : goal.loop-n-init
unfolding ramp_values
loop-n-init c = c.new-values.ensures

pub loop-n-preserved : goal.loop-n-preserved
loop-n-preserved c =
    ramp_next c.args.step c.loop-n.n _ _ c.loop-n.values c.push.new.self c.in_ok-push.ensures.ok (search rules) (search rules) c.loop-n.invariant
