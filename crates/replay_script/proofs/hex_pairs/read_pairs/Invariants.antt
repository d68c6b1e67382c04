-- The pairs before the place are written, or one of them was none.
use Rattle.replay_script.proofs.PairLemmas.{ReadSoFar}
use Rattle.replay_script.proofs.hex_pairs.read_pairs.Given as goal

abbrev pub invariant-bytes : goal.invariant-bytes
invariant-bytes l = ReadSoFar l.word l.out l.i l.seen
