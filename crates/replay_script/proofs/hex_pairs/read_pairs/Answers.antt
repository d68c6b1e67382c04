-- One pair more, and all of them.
use Rattle.std.proofs.Common.{arith}
use Rattle.replay_script.proofs.PairLemmas.{pairs_more, pairs_end}
use Rattle.replay_script.proofs.hex_pairs.read_pairs.Goals as goal

pub bytes-preserved : goal.bytes-preserved
bytes-preserved c =
    pairs_more c.args.word.now c.bytes.out c.bytes.i c.bytes.seen c.pair-sum.result (omega arith) (omega arith) c.pair-sum.ensures c.bytes.invariant

pub returns : goal.returns
returns c = pairs_end c.args.word.now c.bytes.out c.bytes.i c.bytes.seen (omega arith) (omega arith) c.bytes.invariant
