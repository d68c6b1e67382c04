use Rattle.std.proofs.Common.{◌≡◌}
use Rattle.daemon_signals.specs.Values.{ramp_values}
use Rattle.daemon_signals.proofs.tables.ramp_values.Given as goal

-- the values so far are those of a ramp of this period
abbrev pub invariant-loop-n : goal.invariant-loop-n
invariant-loop-n l = l.values ≡ ramp_values l.step l.n
