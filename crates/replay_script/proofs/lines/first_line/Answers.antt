-- The first line goes up to the first LF, or to the end.
use Rattle.std.proofs.Math.Seq.{take-length, drop-length}
use Rattle.replay_script.proofs.LineLemmas.{found, missing, is_lf, lines_of-first, lines_of-last, lines_of-nil}
use Rattle.replay_script.proofs.lines.first_line.Goals as goal

pub returns-in-Some-clause-lines : goal.returns-in-Some-clause-lines
returns-in-Some-clause-lines c =
    let f = found is_lf c.args.bytes.now c.in-Some.at c.in-Some.ensures in
    rw (c.split_at.ensures.front, c.split_at.ensures.back) (lines_of-first c.args.bytes.now c.in-Some.at f.is f.within)

pub returns-in-None-clause-lines : goal.returns-in-None-clause-lines
returns-in-None-clause-lines c =
    let bytes = c.args.bytes.now in
    let last = lines_of-last bytes c.requires (missing is_lf bytes c.in-None.ensures) in
    rw (c.split_at-in-None.ensures.front, c.split_at-in-None.ensures.back, take-length bytes, drop-length bytes, lines_of-nil) last
