use Rattle.std.proofs.Common.{◌-◌, sym, arith}
use Rattle.notify_frames.specs.Samples.{sample_meant}
use Rattle.notify_frames.proofs.Left.{left_in-first, left_in-no_first}
use Rattle.notify_frames.proofs.place.take_sample.Goals as goal

pub returns-in_err-sample : goal.returns-in_err-sample
returns-in_err-sample c = rw c.from_residual.ensures
    (left_in-no_first c.args.place.time c.args.place.samples c.args.place.stamps c.args.place.bytes.now c.requires (sym c.in_err-sample.ensures))

pub returns : goal.returns
returns c = left_in-first c.args.place.time c.args.place.samples c.args.place.stamps (c.args.place.samples - 1) c.args.place.bytes.now
    (sample_meant c.in_ok-sample.sample) c.in_ok-sample.rest.now (omega (arith, c.requires)) (sym c.in_ok-sample.ensures)
