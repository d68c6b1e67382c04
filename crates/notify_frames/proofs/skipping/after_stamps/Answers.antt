use Rattle.std.proofs.Common.{◌+◌, ◌-◌, arith}
use Rattle.notify_frames.proofs.Rests.{stamps_go_on, stamps_stop, stamps_end}
use Rattle.notify_frames.proofs.skipping.after_stamps.Goals as goal

pub returns-in_err-after : goal.returns-in_err-after
returns-in_err-after c = rw c.from_residual.ensures (stamps_stop (c.args.count - c.loop.counter) c.loop.rest.now _ (omega (arith, c.loop-test.true))
    c.in_err-after.ensures c.loop.invariant)

pub loop-preserved : goal.loop-preserved
loop-preserved c = stamps_go_on (c.args.count - c.loop.counter) (c.args.count - (c.loop.counter + 1)) c.loop.rest.now
    c.in_ok-after.after.now _ (omega (arith, c.loop-test.true)) c.in_ok-after.ensures c.loop.invariant

pub returns : goal.returns
returns c = stamps_end (c.args.count - c.loop.counter) c.loop.rest.now _ (omega (arith, c.loop-test.false)) c.loop.invariant
