use Rattle.name_paths.proofs.later.LaterSteps.+step.Given as goal

abbrev pub decreases-step : goal.decreases-step
decreases-step l = l.n
