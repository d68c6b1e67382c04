use Rattle.std.proofs.Common.{refl, subst}
use Rattle.ads_outside.specs.declared.moves.Move.TheVariants as move
use Rattle.server_core.specs.CoreState.{CoreState, after_move}
use Rattle.server_core.specs.ServerView.{view_of}
use Rattle.server_core.specs.Serves.{CoreView, Serves, Follows, FollowsEach}
use Rattle.server_core.proofs.CoreLemmas.{follows_core, ended_some}
use Rattle.server_core.proofs.ServeLemmas.{shut_is_closed, lost_is_closed}
use Rattle.server_core.proofs.event_core.Core.remove.Goals as goal

pub invariant_of-self : goal.invariant_of-self
invariant_of-self g c = λ working.
    ended_some (view_of c.self.inside.server) (view_of c.end.new.self)
    (g.S.Sources.waves c.self.inside.signals) c.args.conn (c.self.invariant working) c.end.ensures.follows

pub returns-clause-shut : goal.returns-clause-shut
returns-clause-shut g c = λ x.
    let waves = g.S.Sources.waves c.self.inside.signals in
    let new : CoreView = record { server = view_of c.end.new.self; waves = waves; failed = c.self.inside.failed } in
    let old : CoreView = record { server = view_of c.self.inside.server; waves = waves; failed = c.self.inside.failed } in
    subst (λ (v : CoreView). Serves v x → Follows v new x (after_move x (move.Shut c.args.conn))) c.self.view_is
    (λ s. follows_core old new x (after_move x (move.Shut c.args.conn)) s refl refl
    (subst (λ (y : CoreState). FollowsEach old.server new.server waves x y) (shut_is_closed x c.args.conn) (c.end.ensures.follows waves x s.server)))

pub returns-clause-lost : goal.returns-clause-lost
returns-clause-lost g c = λ x.
    let waves = g.S.Sources.waves c.self.inside.signals in
    let new : CoreView = record { server = view_of c.end.new.self; waves = waves; failed = c.self.inside.failed } in
    let old : CoreView = record { server = view_of c.self.inside.server; waves = waves; failed = c.self.inside.failed } in
    subst (λ (v : CoreView). Serves v x → Follows v new x (after_move x (move.Lost c.args.conn))) c.self.view_is
    (λ s. follows_core old new x (after_move x (move.Lost c.args.conn)) s refl refl
    (subst (λ (y : CoreState). FollowsEach old.server new.server waves x y) (lost_is_closed x c.args.conn) (c.end.ensures.follows waves x s.server)))
