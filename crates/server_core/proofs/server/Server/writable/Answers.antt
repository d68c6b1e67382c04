use Rattle.std.proofs.Common.{sym, subst}
use Rattle.ads_outside.specs.declared.event.Event.TheVariants as event
use Rattle.connections.specs.Outlets.{Outlets}
use Rattle.server_core.specs.CoreState.{after_event}
use Rattle.server_core.specs.ServerView.{view_of}
use Rattle.server_core.specs.Serves.{FollowsEach}
use Rattle.server_core.proofs.TookLemmas.{writable_follows}
use Rattle.server_core.proofs.server.Server.writable.Goals as goal

pub returns-clause-follows : goal.returns-clause-follows
returns-clause-follows c = λ waves x s.
    let v = view_of c.args.self.now in
    subst (λ (es : Outlets). FollowsEach v (record v { outlets = es }) waves x (after_event x (event.Writable c.args.connection)))
    (sym c.free.ensures) (writable_follows v waves x c.args.connection s)
