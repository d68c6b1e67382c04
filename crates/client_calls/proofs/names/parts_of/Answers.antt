use Rattle.std.proofs.Common.{arith}
use Rattle.client_calls.proofs.NameLemmas.{parts_more, parts_all}
use Rattle.client_calls.proofs.names.parts_of.Goals as goal

pub loop-i-preserved : goal.loop-i-preserved
loop-i-preserved c = (
  parts_more c.args.handles.now c.args.sizes.now c.loop-i.i c.loop-i.parts c.put_part.new.parts
      c.loop-i-test.true c.requires c.in_ok-put_part.ensures.part c.loop-i.invariant.0,
  omega (arith, c.in_ok-put_part.ensures.size, c.loop-i.invariant.1),
)

pub returns-clause-parts : goal.returns-clause-parts
returns-clause-parts c = parts_all c.args.handles.now c.args.sizes.now c.loop-i.i c.loop-i.parts c.loop-i-test.false c.requires c.loop-i.invariant.0
