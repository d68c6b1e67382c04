use Rattle.std.proofs.Common.{refl, arith}
use Rattle.spec_frames.specs.Division.{left_behind}
use Rattle.ams_tcp.proofs.splitter.fed_nothing.Goals as goal

pub returns-clause-nothing : goal.returns-clause-nothing
unfolding left_behind
returns-clause-nothing c = record { rest = c.new.ensures.items; given = omega arith; told_broken = refl }
