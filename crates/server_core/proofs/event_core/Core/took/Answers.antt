use Rattle.std.proofs.Common.{sym, subst}
use Rattle.server_core.specs.ServerView.{view_of}
use Rattle.server_core.specs.Serves.{CoreView, FitsOffer}
use Rattle.server_core.proofs.CoreLemmas.{took_some}
use Rattle.server_core.proofs.event_core.Core.took.Goals as goal

pub invariant_of-self : goal.invariant_of-self
invariant_of-self g c = λ working.
    let fits = subst (λ (v : CoreView). FitsOffer c.args.n c.args.conn v) (sym c.self.view_is) c.requires in
    took_some (view_of c.self.inside.server) (view_of c.took.new.self)
    (g.S.Sources.waves c.self.inside.signals) c.args.conn c.args.n (c.self.invariant working) fits c.took.ensures.follows
