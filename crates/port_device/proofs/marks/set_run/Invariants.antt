use Rattle.port_device.specs.Marks.{SetsMarks}
use Rattle.port_device.proofs.marks.set_run.Given as goal

-- the marks before this one are set
abbrev pub invariant-loop-k : goal.invariant-loop-k
invariant-loop-k l = SetsMarks l.initial.marks l.marks l.first l.k
