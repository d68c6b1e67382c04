use Rattle.std.proofs.Common.{◌-◌, sym, arith}
use Rattle.std.proofs.lemmas.List.{take_rest}
use Rattle.notify_frames.proofs.Left.{left_in-short, left_in-next}
use Rattle.notify_frames.proofs.place.next_stamp.Goals as goal

pub returns-then-bytes-lt12-clause-left : goal.returns-then-bytes-lt12-clause-left
returns-then-bytes-lt12-clause-left c = sym (left_in-short c.args.place.time c.args.place.samples c.args.place.stamps c.args.place.bytes.now
    c.requires.none_left c.requires.some c.if-bytes-lt12.true)

pub returns-clause-left : goal.returns-clause-left
returns-clause-left c = left_in-next c.args.place.time c.args.place.samples c.args.place.stamps c.get64.result c.get32.result (c.args.place.stamps - 1)
    c.args.place.bytes.now _ c.requires.none_left (omega (arith, c.requires.some)) (omega (arith, c.if-bytes-lt12.false)) c.get64.ensures c.get32.ensures
    (take_rest c.args.place.bytes.now 12)
