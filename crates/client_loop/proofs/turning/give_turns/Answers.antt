-- One turn behind others.
use Rattle.std.proofs.Common.{refl, ◌∙◌}
use Rattle.client_loop.specs.Outlets.{outlets}
use Rattle.client_loop.proofs.LaterLemmas.{link_same, link_then, out_same, out_then}
use Rattle.client_loop.proofs.TurnLemmas.{takes_none, takes_more, turned_so, turned_not, if_waits}
use Rattle.client_loop.proofs.turning.give_turns.Goals as goal

pub turns-init : goal.turns-init
turns-init g c = record {
  turns = λ r n stands. takes_none c.args.now c.args.runner.now (g.L.Link.tells c.args.link.now)
      (outlets (g.S.Sink.state c.args.out.now) (g.K.Keeper.state c.args.keeper.now)) n r stands;
  ready = c.requires;
  same = refl;
  linked = link_same _;
  outed = out_same _;
}

pub take_turn-requires : goal.take_turn-requires
take_turn-requires g c = c.turns.invariant.ready

pub turns-smaller : goal.turns-smaller
turns-smaller g c = rw c.in-Ok-None.field-0-is at c.in-Ok-None.ensures.falls

pub turns-preserved : goal.turns-preserved
turns-preserved g c =
    let turned = rw c.in-Ok-None.field-0-is at c.in-Ok-None.ensures.turn in
    record {
      turns = λ r n stands. takes_more c.args.now c.turns.runner c.take_turn.new.runner (g.L.Link.tells c.args.link.now)
          (g.L.Link.tells c.turns.link) (g.L.Link.tells c.take_turn.new.link) (g.L.Link.state c.turns.link) (g.L.Link.state c.take_turn.new.link)
          (outlets (g.S.Sink.state c.args.out.now) (g.K.Keeper.state c.args.keeper.now))
          (outlets (g.S.Sink.state c.turns.out) (g.K.Keeper.state c.turns.keeper))
          (outlets (g.S.Sink.state c.take_turn.new.out) (g.K.Keeper.state c.take_turn.new.keeper)) n r
          (c.turns.invariant.turns r n stands) (λ b m s. turned b m s);
      ready = rw c.in-Ok-None.field-0-is at c.in-Ok-None.ensures.ready;
      same = c.take_turn.ensures.same ∙ c.turns.invariant.same;
      linked = link_then _ _ _ c.turns.invariant.linked c.take_turn.ensures.link_later;
      outed = out_then _ _ _ c.turns.invariant.outed c.take_turn.ensures.out_later;
    }

pub returns-in-Ok-Some-clause-turns : goal.returns-in-Ok-Some-clause-turns
returns-in-Ok-Some-clause-turns g c = λ r n stands.
    turned_so c.in-Ok-Some.turned c.args.now c.turns.runner c.take_turn.new.runner (g.L.Link.tells c.args.link.now)
    (g.L.Link.tells c.turns.link) (g.L.Link.tells c.take_turn.new.link) (g.L.Link.state c.args.link.now) (g.L.Link.state c.turns.link)
    (g.L.Link.state c.take_turn.new.link) (outlets (g.S.Sink.state c.args.out.now) (g.K.Keeper.state c.args.keeper.now))
    (outlets (g.S.Sink.state c.turns.out) (g.K.Keeper.state c.turns.keeper))
    (outlets (g.S.Sink.state c.take_turn.new.out) (g.K.Keeper.state c.take_turn.new.keeper)) n r c.turns.invariant.linked.faults c.turns.invariant.outed
    (c.turns.invariant.turns r n stands) (λ b m s. (rw c.in-Ok-Some.field-0-is at c.in-Ok-Some.ensures.turn) b m s)

pub returns-in-Ok-Some-clause-ready : goal.returns-in-Ok-Some-clause-ready
returns-in-Ok-Some-clause-ready g c = if_waits c.in-Ok-Some.turned _ (rw c.in-Ok-Some.field-0-is at c.in-Ok-Some.ensures.ready)

pub returns-in-Ok-Some-clause-same : goal.returns-in-Ok-Some-clause-same
returns-in-Ok-Some-clause-same g c = c.take_turn.ensures.same ∙ c.turns.invariant.same

pub returns-in-Ok-Some-clause-link_later : goal.returns-in-Ok-Some-clause-link_later
returns-in-Ok-Some-clause-link_later g c = link_then _ _ _ c.turns.invariant.linked c.take_turn.ensures.link_later

pub returns-in-Ok-Some-clause-out_later : goal.returns-in-Ok-Some-clause-out_later
returns-in-Ok-Some-clause-out_later g c = out_then _ _ _ c.turns.invariant.outed c.take_turn.ensures.out_later

pub returns-in-Err-clause-turns : goal.returns-in-Err-clause-turns
returns-in-Err-clause-turns g c = λ r n stands.
    turned_not c.in-Err.e c.args.now c.turns.runner c.take_turn.new.runner (g.L.Link.tells c.args.link.now) (g.L.Link.tells c.turns.link)
    (g.L.Link.tells c.take_turn.new.link) (g.L.Link.state c.args.link.now) (g.L.Link.state c.turns.link) (g.L.Link.state c.take_turn.new.link)
    (outlets (g.S.Sink.state c.args.out.now) (g.K.Keeper.state c.args.keeper.now))
    (outlets (g.S.Sink.state c.turns.out) (g.K.Keeper.state c.turns.keeper))
    (outlets (g.S.Sink.state c.take_turn.new.out) (g.K.Keeper.state c.take_turn.new.keeper)) n r
    (c.turns.invariant.turns r n stands) (λ b m s. c.in-Err.ensures.turn b m s)

pub returns-in-Err-clause-same : goal.returns-in-Err-clause-same
returns-in-Err-clause-same g c = c.take_turn.ensures.same ∙ c.turns.invariant.same

pub returns-in-Err-clause-link_later : goal.returns-in-Err-clause-link_later
returns-in-Err-clause-link_later g c = link_then _ _ _ c.turns.invariant.linked c.take_turn.ensures.link_later

pub returns-in-Err-clause-out_later : goal.returns-in-Err-clause-out_later
returns-in-Err-clause-out_later g c = out_then _ _ _ c.turns.invariant.outed c.take_turn.ensures.out_later
