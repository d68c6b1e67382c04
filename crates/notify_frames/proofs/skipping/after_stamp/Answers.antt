use Rattle.std.proofs.Common.{◌∙◌}
use Rattle.std.proofs.lemmas.List.{take_rest}
use Rattle.notify_frames.proofs.Rests.{stamp_of-long, stamp_of-short}
use Rattle.notify_frames.proofs.skipping.after_stamp.Goals as goal

pub returns-then-bytes-lt12 : goal.returns-then-bytes-lt12
returns-then-bytes-lt12 c = stamp_of-short c.args.bytes.now c.if-bytes-lt12.true

pub returns : goal.returns
returns c = c.after_samples.ensures
    ∙ stamp_of-long c.args.bytes.now c.get32.result _ c.if-bytes-lt12.false c.get32.ensures (take_rest c.args.bytes.now 12)
