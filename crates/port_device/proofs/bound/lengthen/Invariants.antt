use Rattle.std.proofs.Common.{◌-◌, ◌+◌, vec_len}
use Rattle.port_device.specs.BoundTables.{IsLengthened}
use Rattle.port_device.proofs.bound.lengthen.Given as goal

abbrev pub invariant-loop-bound : goal.invariant-loop-bound
invariant-loop-bound l = IsLengthened l.initial.bound.items l.bound.items (l.place + 1)

abbrev pub decreases-loop-bound : goal.decreases-loop-bound
decreases-loop-bound l = l.place + 1 - vec_len l.bound
