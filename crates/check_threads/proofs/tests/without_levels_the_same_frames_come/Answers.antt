use Rattle.check_threads.proofs.Served.{both_ready}
use Rattle.check_threads.proofs.tests.without_levels_the_same_frames_come.Goals as goal

pub check_all-requires-after_bounds : goal.check_all-requires-after_bounds
check_all-requires-after_bounds g c κs = both_ready _ _ _ _ c.in_ok-ports.ensures c.in_ok-watching.ensures c.in_ok-watching-2.ensures
