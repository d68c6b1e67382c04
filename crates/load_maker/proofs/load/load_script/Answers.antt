use Rattle.std.proofs.Common.{◌+◌, ◌*◌, arith}
use Rattle.load_maker.proofs.LoadLemmas.{all_parts}
use Rattle.load_maker.proofs.load.load_script.Goals as goal

pub returns : goal.returns
returns c =
    all_parts c.args.n (100000 * (c.from-turns.result + 1)) c.new-script.result
    c.put_openings.new.out c.put_watches.new.out c.put_turns.new.out c.put_tick.new.out
    c.new-script.ensures c.in_ok-put_openings.ensures c.in_ok-put_watches.ensures
    c.in_ok-put_turns.ensures c.in_ok-put_tick.ensures (omega (arith, c.from-turns.ensures))
