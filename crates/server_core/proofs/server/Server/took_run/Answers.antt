use Rattle.std.proofs.Common.{sym, subst}
use Rattle.ads_outside.specs.Wholes.{wholes}
use Rattle.connections.specs.Outlets.{Outlets}
use Rattle.server_core.specs.CoreState.{after_moves}
use Rattle.server_core.specs.ServerView.{view_of}
use Rattle.server_core.specs.Serves.{FollowsEach}
use Rattle.server_core.proofs.TookLemmas.{run_follows}
use Rattle.server_core.proofs.server.Server.took_run.Goals as goal

pub returns-clause-follows : goal.returns-clause-follows
returns-clause-follows c = λ waves x frames s lent.
    let v = view_of c.args.self.now in
    subst (λ (es : Outlets). FollowsEach v (record v { outlets = es }) waves x (after_moves x (wholes c.args.connection frames)))
    (sym c.took_run.ensures) (run_follows v waves x c.args.connection frames s lent)
