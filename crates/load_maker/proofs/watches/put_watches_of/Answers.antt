use Rattle.std.proofs.Common.{◌≡◌, ◌++◌, map, ap, ◌∙◌, arith}
use Rattle.std.specs.List.{range_with_len}
use Rattle.load_maker.specs.MadeLines.{script_text}
use Rattle.load_maker.specs.LoadScript.{watch_line, watch_lines}
use Rattle.load_maker.proofs.LoadLemmas.{watches-more}
use Rattle.load_maker.proofs.watches.put_watches_of.Goals as goal

pub loop-j-preserved : goal.loop-j-preserved
loop-j-preserved c =
    watches-more c.args.out.now c.put_watch.new.out c.loop-j.out c.args.client c.loop-j.j c.loop-j.invariant c.in_ok-put_watch.ensures

pub returns : goal.returns
unfolding watch_lines
returns c =
    let all : c.loop-j.j ≡ 10 = omega arith in
    c.loop-j.invariant ∙ ap (λ j. c.args.out.now ++ script_text (map (watch_line c.args.client) (range_with_len 0 j))) all
