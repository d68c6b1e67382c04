-- One answer behind others.
use Rattle.std.proofs.Common.{arith}
use Rattle.std.specs.Prelude.{Ok, Err}
use Rattle.client_loop.specs.Outlets.{outlets}
use Rattle.client_loop.proofs.LaterLemmas.{link_same, link_then, out_same, out_then}
use Rattle.client_loop.proofs.OverLemmas.{hears_none, hears_more, hears_last, ends_behind}
use Rattle.client_loop.proofs.hearing.hear_each.Goals as goal

pub loop-heard-init : goal.loop-heard-init
loop-heard-init g c = record {
  hears = λ x begun. hears_none x c.args.runner.now (g.L.Link.tells c.args.link.now) (g.L.Link.state c.args.link.now)
      (outlets (g.S.Sink.state c.args.out.now) (g.K.Keeper.state c.args.keeper.now)) begun;
  ready = c.requires.ready;
  few = omega arith;
  linked = link_same _;
  outed = out_same (outlets (g.S.Sink.state c.args.out.now) (g.K.Keeper.state c.args.keeper.now));
}

pub hear-requires-clause-ready : goal.hear-requires-clause-ready
hear-requires-clause-ready g c = c.loop-heard.invariant.ready

pub hear-requires-clause-few : goal.hear-requires-clause-few
hear-requires-clause-few g c = c.loop-heard.invariant.few

pub loop-heard-preserved : goal.loop-heard-preserved
loop-heard-preserved g c = record {
  hears = λ x begun.
      hears_more x c.loop-heard.runner c.hear.new.runner c.loop-heard.quiet c.in-Ok-Goes.in_a_row c.loop-heard._heard
      (g.L.Link.tells c.args.link.now) (g.L.Link.tells c.loop-heard.link) (g.L.Link.tells c.hear.new.link)
      (g.L.Link.state c.args.link.now) (g.L.Link.state c.loop-heard.link) (g.L.Link.state c.hear.new.link)
      (outlets (g.S.Sink.state c.args.out.now) (g.K.Keeper.state c.args.keeper.now))
      (outlets (g.S.Sink.state c.loop-heard.out) (g.K.Keeper.state c.loop-heard.keeper))
      (outlets (g.S.Sink.state c.hear.new.out) (g.K.Keeper.state c.hear.new.keeper)) c.loop-heard-test.true
      (c.loop-heard.invariant.hears x begun) (λ y at. (rw c.in-Ok-Goes.field-0-is at c.in-Ok-Goes.ensures.round) y at);
  ready = rw c.in-Ok-Goes.field-0-is at c.in-Ok-Goes.ensures.ready;
  few = rw c.in-Ok-Goes.field-0-is at c.in-Ok-Goes.ensures.few;
  linked = link_then _ _ _ c.loop-heard.invariant.linked c.hear.ensures.link_later;
  outed = out_then _ _ _ c.loop-heard.invariant.outed c.hear.ensures.out_later;
}

pub returns-in-Ok-Ends-clause-ends : goal.returns-in-Ok-Ends-clause-ends
returns-in-Ok-Ends-clause-ends g c = λ x begun.
    ends_behind (Ok c.in-Ok-Ends.end) x c.loop-heard.runner c.hear.new.runner c.loop-heard.quiet c.loop-heard._heard
    (g.L.Link.tells c.args.link.now) (g.L.Link.tells c.loop-heard.link) (g.L.Link.tells c.hear.new.link)
    (g.L.Link.state c.args.link.now) (g.L.Link.state c.loop-heard.link) (g.L.Link.state c.hear.new.link)
    (outlets (g.S.Sink.state c.args.out.now) (g.K.Keeper.state c.args.keeper.now))
    (outlets (g.S.Sink.state c.loop-heard.out) (g.K.Keeper.state c.loop-heard.keeper))
    (outlets (g.S.Sink.state c.hear.new.out) (g.K.Keeper.state c.hear.new.keeper))
    c.loop-heard.invariant.linked.faults c.loop-heard.invariant.outed c.loop-heard-test.true
    (c.loop-heard.invariant.hears x begun) (λ y at. (rw c.in-Ok-Ends.field-0-is at c.in-Ok-Ends.ensures.round) y at)

pub returns-in-Ok-Ends-clause-link_later : goal.returns-in-Ok-Ends-clause-link_later
returns-in-Ok-Ends-clause-link_later g c = link_then _ _ _ c.loop-heard.invariant.linked c.hear.ensures.link_later

pub returns-in-Ok-Ends-clause-out_later : goal.returns-in-Ok-Ends-clause-out_later
returns-in-Ok-Ends-clause-out_later g c = out_then _ _ _ c.loop-heard.invariant.outed c.hear.ensures.out_later

pub returns-in-Err-clause-ends : goal.returns-in-Err-clause-ends
returns-in-Err-clause-ends g c = λ x begun.
    ends_behind (Err c.in-Err.e) x c.loop-heard.runner c.hear.new.runner c.loop-heard.quiet c.loop-heard._heard
    (g.L.Link.tells c.args.link.now) (g.L.Link.tells c.loop-heard.link) (g.L.Link.tells c.hear.new.link)
    (g.L.Link.state c.args.link.now) (g.L.Link.state c.loop-heard.link) (g.L.Link.state c.hear.new.link)
    (outlets (g.S.Sink.state c.args.out.now) (g.K.Keeper.state c.args.keeper.now))
    (outlets (g.S.Sink.state c.loop-heard.out) (g.K.Keeper.state c.loop-heard.keeper))
    (outlets (g.S.Sink.state c.hear.new.out) (g.K.Keeper.state c.hear.new.keeper))
    c.loop-heard.invariant.linked.faults c.loop-heard.invariant.outed c.loop-heard-test.true
    (c.loop-heard.invariant.hears x begun) (λ y at. c.in-Err.ensures.round y at)

pub returns-in-Err-clause-link_later : goal.returns-in-Err-clause-link_later
returns-in-Err-clause-link_later g c = link_then _ _ _ c.loop-heard.invariant.linked c.hear.ensures.link_later

pub returns-in-Err-clause-out_later : goal.returns-in-Err-clause-out_later
returns-in-Err-clause-out_later g c = out_then _ _ _ c.loop-heard.invariant.outed c.hear.ensures.out_later

pub returns-clause-ends : goal.returns-clause-ends
returns-clause-ends g c = λ x begun.
    hears_last x c.loop-heard.runner c.loop-heard.quiet c.loop-heard._heard (g.L.Link.tells c.args.link.now) (g.L.Link.tells c.loop-heard.link)
    (g.L.Link.state c.args.link.now) (g.L.Link.state c.loop-heard.link) (outlets (g.S.Sink.state c.args.out.now) (g.K.Keeper.state c.args.keeper.now))
    (outlets (g.S.Sink.state c.loop-heard.out) (g.K.Keeper.state c.loop-heard.keeper))
    (omega arith) (c.loop-heard.invariant.hears x begun)

pub returns-clause-link_later : goal.returns-clause-link_later
returns-clause-link_later g c = c.loop-heard.invariant.linked

pub returns-clause-out_later : goal.returns-clause-out_later
returns-clause-out_later g c = c.loop-heard.invariant.outed
