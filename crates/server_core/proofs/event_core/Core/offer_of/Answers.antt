use Rattle.std.proofs.Common.{◌∙◌, sym, subst}
use Rattle.server_core.specs.ServerView.{view_of}
use Rattle.server_core.specs.Serves.{CoreView, Serves}
use Rattle.connections.proofs.ReadLemmas.{offer_is}
use Rattle.server_core.proofs.event_core.Core.offer_of.Goals as goal

pub returns-clause-machine : goal.returns-clause-machine
returns-clause-machine g c = λ x s.
    let here = subst (λ (v : CoreView). Serves v x) (sym c.self.view_is) s in
    c.offer_of.ensures.offer ∙ offer_is (view_of c.self.inside.server).outlets x c.args.conn here.server.outlets
