use Rattle.server_core.proofs.sources.VecBoxDynSignalSources.step_into.Goals as goal

pub returns-clause-ports : goal.returns-clause-ports
returns-clause-ports g c = λ w held same. c.step_signals.ensures.ports w held (let list = c.replace.ensures.value in cc)
