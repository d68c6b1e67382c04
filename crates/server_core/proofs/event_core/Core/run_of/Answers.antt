use Rattle.std.proofs.Common.{◌≡◌, Some, subst}
use Rattle.server_core.specs.ServerView.{view_of}
use Rattle.server_core.specs.Serves.{CoreView, Serves, run_in}
use Rattle.ads_served.specs.Due.{IsRun}
use Rattle.connections.proofs.ReadLemmas.{run_is}
use Rattle.server_core.proofs.event_core.Core.run_of.Goals as goal

pub returns-clause-machine : goal.returns-clause-machine
returns-clause-machine g c = λ x frames.
    let n = c.args.conn in
    subst (λ (v : CoreView). Serves v x → run_in v n ≡ Some frames → IsRun n x frames) c.self.view_is
    (λ s some. run_is (view_of c.self.inside.server).outlets x n frames s.server.outlets some)
