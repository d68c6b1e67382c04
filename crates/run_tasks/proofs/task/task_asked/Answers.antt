-- The numbers are small enough.
use Rattle.run_tasks.proofs.TaskLemmas.{fits_of}
use Rattle.run_tasks.proofs.task.task_asked.Goals as goal

pub returns-in-Ok-Some-clause-fits : goal.returns-in-Ok-Some-clause-fits
returns-in-Ok-Some-clause-fits c = fits_of _ c.task_of.result c.task_of.ensures (rw c.in-Ok-Some.field-0-is at c.in-Ok-Some.ensures.fits)
