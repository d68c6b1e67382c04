-- What is read so far, and the lines that are left, make the script.
use Rattle.std.proofs.Common.{length}
use Rattle.replay_script.proofs.ReadLemmas.{Reads}
use Rattle.replay_script.proofs.reader.read_script.Given as goal

abbrev pub invariant-loop-rest : goal.invariant-loop-rest
invariant-loop-rest l = Reads l.bytes l.progress l.rest

abbrev pub decreases-loop-rest : goal.decreases-loop-rest
decreases-loop-rest l = length l.rest
