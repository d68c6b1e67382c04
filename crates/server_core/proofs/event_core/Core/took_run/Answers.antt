use Rattle.std.proofs.Common.{◌≡◌, Some, refl, sym, subst}
use Rattle.std.specs.Prelude.{IsSome}
use Rattle.ads_outside.specs.Wholes.{wholes}
use Rattle.server_core.specs.CoreState.{after_moves}
use Rattle.server_core.specs.ServerView.{view_of}
use Rattle.server_core.specs.Serves.{CoreView, Serves, Follows, run_in}
use Rattle.server_core.proofs.CoreLemmas.{follows_core}
use Rattle.server_core.proofs.TookLemmas.{run_some}
use Rattle.server_core.proofs.event_core.Core.took_run.Goals as goal

pub invariant_of-self : goal.invariant_of-self
invariant_of-self g c = λ working.
    let lent = subst (λ (v : CoreView). IsSome (run_in v c.args.conn)) (sym c.self.view_is) c.requires in
    run_some (view_of c.self.inside.server) (view_of c.took_run.new.self)
    (g.S.Sources.waves c.self.inside.signals) c.args.conn (c.self.invariant working) lent c.took_run.ensures.follows

pub returns-clause-follows : goal.returns-clause-follows
returns-clause-follows g c = λ x frames.
    let n = c.args.conn in
    let waves = g.S.Sources.waves c.self.inside.signals in
    let new : CoreView = record { server = view_of c.took_run.new.self; waves = waves; failed = c.self.inside.failed } in
    let old : CoreView = record { server = view_of c.self.inside.server; waves = waves; failed = c.self.inside.failed } in
    let y = after_moves x (wholes n frames) in
    subst (λ (v : CoreView). Serves v x → run_in v n ≡ Some frames → Follows v new x y) c.self.view_is
    (λ s some. follows_core old new x y s refl refl (c.took_run.ensures.follows waves x frames s.server some))
