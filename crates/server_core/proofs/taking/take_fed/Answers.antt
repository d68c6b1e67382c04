use Rattle.std.proofs.Common.{refl, ◌∙◌, sym, subst}
use Rattle.spec_machine.specs.Piece.{with_piece}
use Rattle.server_core.specs.Served.{ServedExchange}
use Rattle.server_core.specs.Stands.{Stands, Goes, conn_of, history_of}
use Rattle.server_core.specs.Taking.{settled, Takes}
use Rattle.server_core.proofs.TakingLemmas.{none_taken, takes_more, takes_all, then_goes, fed, after_piece-settled}
use Rattle.server_core.proofs.taking.take_fed.Goals as goal

pub loop-init : goal.loop-init
loop-init c = record {
  device = record { net = refl; admission = refl; signals = refl; moment = refl };
  connected = c.requires.connected;
  queue = c.requires.queue;
  opened = c.requires.open;
  takes = λ x held s. none_taken _ c.args.device.now c.args.summary.now x held s (sym s.outlet.closing ∙ c.requires.open);
}

pub loop-preserved : goal.loop-preserved
loop-preserved c = record {
  device = record {
    net = c.in_ok-take_next.ensures.device.net ∙ c.loop.invariant.device.net;
    admission = c.in_ok-take_next.ensures.device.admission ∙ c.loop.invariant.device.admission;
    signals = c.in_ok-take_next.ensures.device.signals ∙ c.loop.invariant.device.signals;
    moment = c.in_ok-take_next.ensures.device.moment ∙ c.loop.invariant.device.moment;
  };
  connected = c.in_ok-take_next.ensures.connected;
  queue = c.take_next.ensures.queue;
  opened = c.in_ok-take_next.ensures.open c.if-branch.true;
  takes = λ x held s.
      let first = c.loop.invariant.takes x held s in
      let so_far = conn_of c.loop.stream c.loop.session c.loop.queue c.loop.closes in
      let new = conn_of c.take_next.new.stream c.take_next.new.session c.take_next.new.queue c.take_next.new.closes in
      let more = c.in_ok-take_next.ensures.takes first.next first.goes.holds
      (subst (λ p. Stands p so_far first.next.connection) (sym first.goes.plant) first.goes.stands) in
      takes_more so_far new c.loop.device c.take_next.new.device c.args.summary.now c.loop.summary c.take_next.new.summary x first
      (subst (λ b. Takes b new c.take_next.new.device c.loop.summary c.take_next.new.summary first.next) c.if-branch.true more);
}

pub returns-clause-goes : goal.returns-clause-goes
returns-clause-goes c = λ x held s there.
    let conn = conn_of c.args.stream.now c.args.session.now c.args.queue.now c.args.closes.now in
    let mid = conn_of c.feed.new.self c.args.session.now c.args.queue.now c.args.closes.now in
    let new = conn_of c.take_next.new.stream c.take_next.new.session c.take_next.new.queue c.take_next.new.closes in
    let d = c.args.device.now in
    let e = c.take_next.new.device in
    let piece = c.args.bytes.now in
    let is_open = sym s.outlet.closing ∙ c.requires.open in
    let come = fed conn mid d c.args.summary.now x piece held s
    (c.in_ok-feed.ensures.ok (history_of c.args.stream.now x.connection) s.stream) refl refl refl in
    let first = c.loop.invariant.takes (with_piece piece x) held come.stands in
    let so_far = conn_of c.loop.stream c.loop.session c.loop.queue c.loop.closes in
    let last = c.in_ok-take_next.ensures.takes first.next first.goes.holds
    (subst (λ p. Stands p so_far first.next.connection) (sym first.goes.plant) first.goes.stands) in
    let all = takes_all so_far new c.loop.device e
    c.args.summary.now c.loop.summary c.take_next.new.summary (with_piece piece x) first
    (subst (λ b. Takes b new e c.loop.summary c.take_next.new.summary first.next) c.if-branch.false last) in
    subst (λ (z : ServedExchange). Goes new e c.args.summary.now c.take_next.new.summary x z) (after_piece-settled piece x is_open there)
    (then_goes mid new d e c.args.summary.now c.args.summary.now c.take_next.new.summary x (with_piece piece x) (settled (with_piece piece x)) come all)

pub returns-clause-device : goal.returns-clause-device
returns-clause-device c = record {
  net = c.take_next.ensures.device.net ∙ c.loop.invariant.device.net;
  admission = c.take_next.ensures.device.admission ∙ c.loop.invariant.device.admission;
  signals = c.take_next.ensures.device.signals ∙ c.loop.invariant.device.signals;
  moment = c.take_next.ensures.device.moment ∙ c.loop.invariant.device.moment;
}
