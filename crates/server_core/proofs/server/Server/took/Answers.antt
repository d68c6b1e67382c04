use Rattle.std.proofs.Common.{◌≤◌, List, ℕ, length, sym, subst}
use Rattle.std.specs.Prelude.{IsSomeAnd}
use Rattle.ads_outside.specs.declared.moves.Move.TheVariants as move
use Rattle.connections.specs.Outlets.{Outlets}
use Rattle.server_core.specs.CoreState.{after_move}
use Rattle.server_core.specs.ServerView.{view_of}
use Rattle.server_core.specs.Serves.{FollowsEach}
use Rattle.server_core.proofs.TookLemmas.{took_follows}
use Rattle.server_core.proofs.server.Server.took.Goals as goal

pub returns-clause-follows : goal.returns-clause-follows
returns-clause-follows c = λ waves x left bytes s offered len.
    let v = view_of c.args.self.now in
    let n = c.args.connection in
    let fits = subst (λ o. IsSomeAnd o (λ (l : List ℕ). c.args.n ≤ length l)) offered c.requires in
    subst (λ (es : Outlets). FollowsEach v (record v { outlets = es }) waves x (after_move x (move.Took n (length left) bytes)))
    (sym c.took.ensures.taken) (took_follows v waves x n c.args.n left bytes s offered len fits)
