use Rattle.std.proofs.Common.{◌+◌, ◌-◌, sym, arith}
use Rattle.notify_frames.specs.Samples.{sample_meant}
use Rattle.notify_frames.proofs.Rests.{samples_go_on, samples_stop, samples_end}
use Rattle.notify_frames.proofs.skipping.after_samples.Goals as goal

pub returns-in_err-_sample : goal.returns-in_err-_sample
returns-in_err-_sample c = rw c.from_residual.ensures (samples_stop (c.args.count - c.loop.counter) c.loop.rest.now _ (omega (arith, c.loop-test.true))
    (sym c.in_err-_sample.ensures) c.loop.invariant)

pub loop-preserved : goal.loop-preserved
loop-preserved c = samples_go_on (c.args.count - c.loop.counter) (c.args.count - (c.loop.counter + 1)) c.loop.rest.now
    (sample_meant c.in_ok-_sample._sample) c.in_ok-_sample.after.now _ (omega (arith, c.loop-test.true)) (sym c.in_ok-_sample.ensures) c.loop.invariant

pub returns : goal.returns
returns c = samples_end (c.args.count - c.loop.counter) c.loop.rest.now _ (omega (arith, c.loop-test.false)) c.loop.invariant
