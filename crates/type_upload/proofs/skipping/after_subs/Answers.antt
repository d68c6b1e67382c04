use Rattle.std.proofs.Common.{◌+◌, ◌-◌, arith}
use Rattle.type_upload.proofs.SubLemmas.{subs_go_on, subs_stop, subs_end}
use Rattle.type_upload.proofs.skipping.after_subs.Goals as goal

pub returns-in_err-after : goal.returns-in_err-after
returns-in_err-after c = rw c.from_residual.ensures (subs_stop (c.args.count - c.loop.counter) c.loop.rest.now _ (omega (arith, c.loop-test.true))
    c.in_err-after.ensures c.loop.invariant)

pub loop-preserved : goal.loop-preserved
loop-preserved c = subs_go_on (c.args.count - c.loop.counter) (c.args.count - (c.loop.counter + 1)) c.loop.rest.now
    c.in_ok-after.after.now _ (omega (arith, c.loop-test.true)) c.in_ok-after.ensures c.loop.invariant

pub returns : goal.returns
returns c = subs_end (c.args.count - c.loop.counter) c.loop.rest.now _ (omega (arith, c.loop-test.false)) c.loop.invariant
