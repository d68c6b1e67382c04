-- The recursion goes down the dimensions; the paths so far, and those of the indexes that are left, are all.
use Rattle.std.proofs.Common.{length, map}
use Rattle.type_layout.specs.ReadTexts.{ends_of}
use Rattle.client_leaves.proofs.PathLemmas.{PathsSoFar}
use Rattle.client_leaves.proofs.paths.+put_paths.Given as goal

abbrev pub decreases-put_paths : goal.decreases-put_paths
decreases-put_paths l = length l.ends.now

abbrev pub invariant-loop-k : goal.invariant-loop-k
invariant-loop-k l = PathsSoFar l.separator l.before (ends_of l.first) (map ends_of l.others) l.k l.k-end l.initial.paths l.paths
