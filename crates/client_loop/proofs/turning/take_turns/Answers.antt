-- All turns, and the rows behind them.
use Rattle.client_loop.specs.Outlets.{outlets}
use Rattle.client_loop.proofs.LaterLemmas.{keeper_later, out_then}
use Rattle.client_loop.proofs.SettleLemmas.{settled_behind, ready_settled}
use Rattle.client_loop.proofs.turning.take_turns.Goals as goal

pub give_turns-requires : goal.give_turns-requires
give_turns-requires g c = c.requires

pub returns-in-Ok-clause-turns : goal.returns-in-Ok-clause-turns
returns-in-Ok-clause-turns g c = λ r n stands.
    settled_behind c.settle_behind.result c.in-Ok.turned c.args.now c.give_turns.new.runner (g.L.Link.tells c.args.link.now)
    (g.L.Link.tells c.give_turns.new.link) (g.L.Link.state c.args.link.now) (g.L.Link.state c.give_turns.new.link)
    (outlets (g.S.Sink.state c.args.out.now) (g.K.Keeper.state c.args.keeper.now)) (g.S.Sink.state c.give_turns.new.out)
    (g.K.Keeper.state c.give_turns.new.keeper) (g.K.Keeper.state c.settle_behind.new.keeper) n r c.settle_behind.ensures.settled
    c.settle_behind.ensures.rows c.settle_behind.ensures.keeper_later c.give_turns.ensures.out_later.keeper
    (c.in-Ok.ensures.turns r n stands)

pub returns-in-Ok-clause-ready : goal.returns-in-Ok-clause-ready
returns-in-Ok-clause-ready g c =
    ready_settled c.settle_behind.result c.in-Ok.turned c.give_turns.new.runner (g.K.Keeper.state c.give_turns.new.keeper)
    (g.K.Keeper.state c.settle_behind.new.keeper) c.settle_behind.ensures.settled c.settle_behind.ensures.rows
    c.in-Ok.ensures.ready

pub returns-in-Ok-clause-out_later : goal.returns-in-Ok-clause-out_later
returns-in-Ok-clause-out_later g c =
    out_then _ _ _ c.give_turns.ensures.out_later
    (keeper_later (g.S.Sink.state c.give_turns.new.out) (g.K.Keeper.state c.give_turns.new.keeper) (g.K.Keeper.state c.settle_behind.new.keeper)
    c.settle_behind.ensures.keeper_later c.settle_behind.ensures.names)
