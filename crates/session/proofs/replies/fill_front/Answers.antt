use Rattle.std.proofs.Common.{◌+◌, ◌-◌, ap}
use Rattle.session.proofs.ReplyLemmas.{filled-front}
use Rattle.session.proofs.replies.fill_front.Goals as goal

pub returns : goal.returns
returns c =
    filled-front c.args.out.now c.write_at.new.out c.write_at-2.new.out c.to_le_bytes.result c.to_le_bytes-2.result c.args.start
    (c.len.result - (c.args.start + 8)) c.args.number c.requires.there (ap (λ n. n - (c.args.start + 8)) c.len.ensures)
    c.to_le_bytes.ensures c.to_le_bytes-2.ensures c.write_at.ensures c.write_at-2.ensures
