use Rattle.connections.proofs.ReadLemmas.{run_is}
use Rattle.ams_relay.proofs.serving.RelayServed.run_of.Goals as goal

pub returns-clause-machine : goal.returns-clause-machine
returns-clause-machine c = λ x frames s some. run_is c.args.self.now.router.outlets x.running c.args.conn frames s.holds.outlets some
