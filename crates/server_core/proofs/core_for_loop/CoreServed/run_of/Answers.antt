use Rattle.server_core.proofs.core_for_loop.CoreServed.run_of.Goals as goal

pub returns-clause-machine : goal.returns-clause-machine
returns-clause-machine g c = λ x frames s some. c.run_of.ensures.machine x.running frames s.serves some
