use Rattle.std.proofs.Common.{◌≡◌, take}
use Rattle.connections.specs.Outlets.{numbers_due}
use Rattle.connections.proofs.outlets.Outlets.put_all.Given as goal

-- those that are due so far
abbrev pub invariant-loop-i : goal.invariant-loop-i
invariant-loop-i l = l.numbers.items ≡ numbers_due (take l.i l.self)
