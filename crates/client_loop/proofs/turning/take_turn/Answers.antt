-- One turn, by its step.
use Rattle.std.proofs.Common.{sym}
use Rattle.spec_client.specs.Runner.{Wait}
use Rattle.client_loop.specs.Outlets.{outlets}
use Rattle.client_loop.proofs.LaterLemmas.{link_same, out_same, sink_later, keeper_later, falls_told}
use Rattle.client_loop.proofs.ReadyLemmas.{next_fits, ready_plain, ready_row}
use Rattle.client_loop.proofs.SaidLemmas.{gives_nothing}
use Rattle.client_loop.proofs.TurnLemmas.{no_steps, turn_sent, turn_printed, turn_kept, unless_turned, after_keep}
use Rattle.client_loop.proofs.turning.take_turn.Goals as goal

pub turn-requires : goal.turn-requires
turn-requires g c = (c.requires.runner, c.requires.stands)

pub returns-in-Ok-Send-clause-turn : goal.returns-in-Ok-Send-clause-turn
returns-in-Ok-Send-clause-turn g c = λ r n stands.
    turn_sent _ c.args.now _ _ _ _ _ (outlets (g.S.Sink.state c.args.out.now) (g.K.Keeper.state c.args.keeper.now)) _ n r c.send.ensures.sent
    ((rw c.in-Ok-Send.field-0-is at c.in-Ok-Send.ensures.step) r stands) ((rw c.in-Ok-Send.field-0-is at c.in-Ok-Send.ensures.stands) r stands)

pub returns-in-Ok-Send-clause-falls : goal.returns-in-Ok-Send-clause-falls
returns-in-Ok-Send-clause-falls g c = falls_told _ _ (rw c.in-Ok-Send.field-0-is at c.in-Ok-Send.ensures.falls)

pub returns-in-Ok-Send-clause-ready : goal.returns-in-Ok-Send-clause-ready
returns-in-Ok-Send-clause-ready g c =
    unless_turned _ _
    (ready_plain c.args.now c.args.runner.now c.turn.new.self _ _ c.requires
    ((rw c.in-Ok-Send.field-0-is at c.in-Ok-Send.ensures.step) c.requires.runner c.requires.stands) tt
    ((rw c.in-Ok-Send.field-0-is at c.in-Ok-Send.ensures.stands) c.requires.runner c.requires.stands))

pub returns-in-Ok-Send-clause-out_later : goal.returns-in-Ok-Send-clause-out_later
returns-in-Ok-Send-clause-out_later g c = out_same (outlets (g.S.Sink.state c.args.out.now) (g.K.Keeper.state c.args.keeper.now))

pub returns-in-Ok-Print-clause-turn : goal.returns-in-Ok-Print-clause-turn
returns-in-Ok-Print-clause-turn g c = λ r n stands.
    turn_printed _ c.args.now _ _ (g.L.Link.state c.args.link.now) _ _ (g.K.Keeper.state c.args.keeper.now) _ n r c.print.ensures.put
    ((rw c.in-Ok-Print.field-0-is at c.in-Ok-Print.ensures.step) r stands) ((rw c.in-Ok-Print.field-0-is at c.in-Ok-Print.ensures.stands) r stands)

pub returns-in-Ok-Print-clause-falls : goal.returns-in-Ok-Print-clause-falls
returns-in-Ok-Print-clause-falls g c = falls_told _ _ (rw c.in-Ok-Print.field-0-is at c.in-Ok-Print.ensures.falls)

pub returns-in-Ok-Print-clause-ready : goal.returns-in-Ok-Print-clause-ready
returns-in-Ok-Print-clause-ready g c =
    unless_turned _ _
    (ready_plain c.args.now c.args.runner.now c.turn.new.self _ _ c.requires
    ((rw c.in-Ok-Print.field-0-is at c.in-Ok-Print.ensures.step) c.requires.runner c.requires.stands) tt
    ((rw c.in-Ok-Print.field-0-is at c.in-Ok-Print.ensures.stands) c.requires.runner c.requires.stands))

pub returns-in-Ok-Print-clause-link_later : goal.returns-in-Ok-Print-clause-link_later
returns-in-Ok-Print-clause-link_later g c = link_same _

pub returns-in-Ok-Print-clause-out_later : goal.returns-in-Ok-Print-clause-out_later
returns-in-Ok-Print-clause-out_later g c = sink_later _ _ (g.K.Keeper.state c.args.keeper.now) c.print.ensures.out_later

pub keep-requires-clause-some : goal.keep-requires-clause-some
keep-requires-clause-some g c = (rw c.in-Ok-Keep.field-0-is at c.in-Ok-Keep.ensures.keepable).0

pub keep-requires-clause-most : goal.keep-requires-clause-most
keep-requires-clause-most g c = (rw c.in-Ok-Keep.field-0-is at c.in-Ok-Keep.ensures.keepable).1

pub keep-requires-clause-next : goal.keep-requires-clause-next
keep-requires-clause-next g c =
    next_fits c.args.now (g.K.Keeper.state c.args.keeper.now).rows c.requires.runner _
    ((rw c.in-Ok-Keep.field-0-is at c.in-Ok-Keep.ensures.step) c.requires.runner c.requires.stands) c.requires.fits

pub returns-in-Ok-Keep-clause-turn : goal.returns-in-Ok-Keep-clause-turn
returns-in-Ok-Keep-clause-turn g c = λ r n stands.
    turn_kept _ c.args.now _ _ (g.L.Link.state c.args.link.now) (g.S.Sink.state c.args.out.now) _ _ _ n r c.keep.ensures.kept
    ((rw c.in-Ok-Keep.field-0-is at c.in-Ok-Keep.ensures.step) r stands) ((rw c.in-Ok-Keep.field-0-is at c.in-Ok-Keep.ensures.stands) r stands)

pub returns-in-Ok-Keep-clause-falls : goal.returns-in-Ok-Keep-clause-falls
returns-in-Ok-Keep-clause-falls g c = falls_told _ _ (rw c.in-Ok-Keep.field-0-is at c.in-Ok-Keep.ensures.falls)

pub returns-in-Ok-Keep-clause-ready : goal.returns-in-Ok-Keep-clause-ready
returns-in-Ok-Keep-clause-ready g c =
    after_keep c.keep.result (g.K.Keeper.state c.args.keeper.now) (g.K.Keeper.state c.keep.new.keeper) _ _ c.keep.ensures.kept
    (λ adds. ready_row c.args.now c.args.runner.now c.turn.new.self _ _ _ c.requires
    ((rw c.in-Ok-Keep.field-0-is at c.in-Ok-Keep.ensures.step) c.requires.runner c.requires.stands) adds
    ((rw c.in-Ok-Keep.field-0-is at c.in-Ok-Keep.ensures.stands) c.requires.runner c.requires.stands))

pub returns-in-Ok-Keep-clause-link_later : goal.returns-in-Ok-Keep-clause-link_later
returns-in-Ok-Keep-clause-link_later g c = link_same _

pub returns-in-Ok-Keep-clause-out_later : goal.returns-in-Ok-Keep-clause-out_later
returns-in-Ok-Keep-clause-out_later g c = keeper_later (g.S.Sink.state c.args.out.now) _ _ c.keep.ensures.keeper_later c.keep.ensures.names

pub returns-in-Ok-Wait-clause-turn : goal.returns-in-Ok-Wait-clause-turn
returns-in-Ok-Wait-clause-turn g c = λ r n stands. (
  (rw c.in-Ok-Wait.field-0-is at c.in-Ok-Wait.ensures.stands) r stands,
  sym ((rw c.in-Ok-Wait.field-0-is at c.in-Ok-Wait.ensures.step) r stands),
  gives_nothing _ (outlets (g.S.Sink.state c.args.out.now) (g.K.Keeper.state c.args.keeper.now)),
)

pub returns-in-Ok-Wait-clause-ready : goal.returns-in-Ok-Wait-clause-ready
returns-in-Ok-Wait-clause-ready g c =
    ready_plain c.args.now c.args.runner.now c.turn.new.self _ Wait c.requires
    ((rw c.in-Ok-Wait.field-0-is at c.in-Ok-Wait.ensures.step) c.requires.runner c.requires.stands) tt
    ((rw c.in-Ok-Wait.field-0-is at c.in-Ok-Wait.ensures.stands) c.requires.runner c.requires.stands)

pub returns-in-Ok-Wait-clause-link_later : goal.returns-in-Ok-Wait-clause-link_later
returns-in-Ok-Wait-clause-link_later g c = link_same _

pub returns-in-Ok-Wait-clause-out_later : goal.returns-in-Ok-Wait-clause-out_later
returns-in-Ok-Wait-clause-out_later g c = out_same (outlets (g.S.Sink.state c.args.out.now) (g.K.Keeper.state c.args.keeper.now))

pub returns-in-Ok-Over-clause-turn : goal.returns-in-Ok-Over-clause-turn
returns-in-Ok-Over-clause-turn g c = λ r n stands. (
  sym ((rw c.in-Ok-Over.field-0-is at c.in-Ok-Over.ensures.step) r stands),
  gives_nothing _ (outlets (g.S.Sink.state c.args.out.now) (g.K.Keeper.state c.args.keeper.now)),
  c.in-Ok-Over.ensures.entries r stands,
)

pub returns-in-Ok-Over-clause-link_later : goal.returns-in-Ok-Over-clause-link_later
returns-in-Ok-Over-clause-link_later g c = link_same _

pub returns-in-Ok-Over-clause-out_later : goal.returns-in-Ok-Over-clause-out_later
returns-in-Ok-Over-clause-out_later g c = out_same (outlets (g.S.Sink.state c.args.out.now) (g.K.Keeper.state c.args.keeper.now))

pub returns-in-Err-clause-turn : goal.returns-in-Err-clause-turn
returns-in-Err-clause-turn g c = λ r n stands. no_steps n _ _ (outlets (g.S.Sink.state c.args.out.now) (g.K.Keeper.state c.args.keeper.now))

pub returns-in-Err-clause-link_later : goal.returns-in-Err-clause-link_later
returns-in-Err-clause-link_later g c = link_same _

pub returns-in-Err-clause-out_later : goal.returns-in-Err-clause-out_later
returns-in-Err-clause-out_later g c = out_same (outlets (g.S.Sink.state c.args.out.now) (g.K.Keeper.state c.args.keeper.now))
