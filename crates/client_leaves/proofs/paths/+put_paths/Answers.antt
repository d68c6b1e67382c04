-- The paths of an index more.
use Rattle.client_leaves.proofs.PathLemmas.{paths_more}
use Rattle.client_leaves.proofs.paths.+put_paths.Goals as goal

pub loop-k-preserved : goal.loop-k-preserved
loop-k-preserved t c =
    paths_more c.args.separator c.args.before.now _ _ c.loop-k.k c.elements_of-k-end.result c.args.paths.now c.loop-k.paths c.put_paths.new.paths
    c.in_ok-path-in-len1-up.path c.loop-k-test.true c.loop-k.invariant c.in_ok-path-in-len1-up.ensures
    (rw c.as_slice.ensures at c.in_ok-put_paths-in-len1-up.ensures)
