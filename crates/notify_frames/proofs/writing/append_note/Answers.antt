use Rattle.std.proofs.Common.{◌+◌, arith}
use Rattle.notify_frames.proofs.Appends.{note_parts}
use Rattle.notify_frames.proofs.writing.append_note.Goals as goal

pub returns-clause-ok : goal.returns-clause-ok
returns-clause-ok c = note_parts c.args.time c.args.samples.now (16 + c.size_of-len.result) c.args.out.now c.reserve.new.self c.put32.new.out
    c.put32-2.new.out c.put64.new.out c.put32-3.new.out c.append_samples.new.out c.reserve.ensures c.in_ok-put32.ensures.ok
    c.in_ok-put32-2.ensures.ok c.in_ok-put64.ensures.ok c.in_ok-put32-3.ensures.ok c.in_ok-append_samples.ensures.ok
    (omega (arith, c.size_of-len.ensures.size))
