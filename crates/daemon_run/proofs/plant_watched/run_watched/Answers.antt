-- It is the run over the watched wire, which ended for a reason.
use Rattle.daemon_run.proofs.DoneLemmas.{risen}
use Rattle.daemon_run.proofs.plant_watched.run_watched.Goals as goal

pub returns-clause-by_stop : goal.returns-clause-by_stop
returns-clause-by_stop g c = λ is. c.ended_for_a_reason.ensures (risen _ _ (c.run_plant-status.ensures.done is))

pub returns-clause-ends : goal.returns-clause-ends
returns-clause-ends g c = c.run_plant-status.ensures.ends
