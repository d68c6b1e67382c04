use Rattle.std.proofs.Common.{◌≤◌, refl, sym, ap, ◌∙◌, subst, arith}
use Rattle.spec_local.specs.LocalCall.{LAST_MOMENT, next_tick}
use Rattle.local_link.proofs.Gives.{bytes_at_once, closed_at_once, bytes_later, nothing_later, TakesWhole, whole_at_once, whole_later}
use Rattle.local_link.proofs.local.LocalLink.give.Goals as goal

pub returns-then-waits-gt0-clause-gives : goal.returns-then-waits-gt0-clause-gives
returns-then-waits-gt0-clause-gives g c =
    bytes_at_once _ _ _ _ _ _ _ c.self.view_is c.in_ok-waits.ensures.takes
    (omega (arith, c.if-waits-gt0.true)) c.in_ok-waits.ensures.fits c.moment-now.ensures c.bytes.ensures refl

pub returns-then-closing-clause-gives : goal.returns-then-closing-clause-gives
returns-then-closing-clause-gives g c =
    closed_at_once _ _ _ c.in_ok-waits.waits _ _ _ c.self.view_is c.in_ok-waits.ensures.takes (omega (arith, c.if-waits-gt0.false))
    (λ x s. sym c.if-closing.true ∙ c.closing.ensures x s) c.moment-now-then-closing.ensures c.close.ensures refl

pub returns-then-came-gt0-clause-gives : goal.returns-then-came-gt0-clause-gives
returns-then-came-gt0-clause-gives g c =
    bytes_later _ _ _ c.take_waiting.new.core c.step.new.core _ _ _ _ c.self.view_is (record {
      n = c.in_ok-waits.waits;
      buf = c.take_waiting.new.buf;
      takes = c.in_ok-waits.ensures.takes;
      none = omega (arith, c.if-waits-gt0.false);
      stays = λ x s. sym c.if-closing.false ∙ c.closing.ensures x s;
      tick = c.in_ok-step.ensures;
      last = subst (λ m. m ≤ LAST_MOMENT) c.moment.ensures c.next_tick-now.ensures.bound;
      moment = c.next_tick-now.ensures.is ∙ ap next_tick c.moment.ensures;
    }) c.in_ok-came.ensures.takes (omega (arith, c.if-came-gt0.true))
    (omega (arith, c.in_ok-came.ensures.fits, c.take_waiting.auto.buf)) c.bytes-then-came-gt0.ensures refl

pub returns-clause-gives : goal.returns-clause-gives
returns-clause-gives g c =
    nothing_later _ _ _ c.take_waiting.new.core c.step.new.core c.in_ok-came.came _ _ _ c.self.view_is (record {
      n = c.in_ok-waits.waits;
      buf = c.take_waiting.new.buf;
      takes = c.in_ok-waits.ensures.takes;
      none = omega (arith, c.if-waits-gt0.false);
      stays = λ x s. sym c.if-closing.false ∙ c.closing.ensures x s;
      tick = c.in_ok-step.ensures;
      last = subst (λ m. m ≤ LAST_MOMENT) c.moment.ensures c.next_tick-now.ensures.bound;
      moment = c.next_tick-now.ensures.is ∙ ap next_tick c.moment.ensures;
    }) c.in_ok-came.ensures.takes (omega (arith, c.if-came-gt0.false)) c.quiet.ensures refl

pub returns-then-waits-gt0-clause-whole : goal.returns-then-waits-gt0-clause-whole
returns-then-waits-gt0-clause-whole g c = λ s stands.
    whole_at_once _ _ c.in_ok-waits.waits _ s c.self.view_is c.in_ok-waits.ensures.whole (omega (arith, c.if-waits-gt0.true)) stands

pub returns-then-came-gt0-clause-whole : goal.returns-then-came-gt0-clause-whole
returns-then-came-gt0-clause-whole g c = λ s stands.
    whole_later _ _ c.take_waiting.new.core c.step.new.core c.in_ok-came.came c.next_tick-now.result _ s c.self.view_is (record {
      n = c.in_ok-waits.waits;
      buf = c.take_waiting.new.buf;
      takes = c.in_ok-waits.ensures.takes;
      none = omega (arith, c.if-waits-gt0.false);
      stays = λ x s. sym c.if-closing.false ∙ c.closing.ensures x s;
      tick = c.in_ok-step.ensures;
      last = subst (λ m. m ≤ LAST_MOMENT) c.moment.ensures c.next_tick-now.ensures.bound;
      moment = c.next_tick-now.ensures.is ∙ ap next_tick c.moment.ensures;
    }) (subst (λ size. TakesWhole c.in_ok-came.came size c.step.new.core) c.take_waiting.auto.buf c.in_ok-came.ensures.whole)
    (omega (arith, c.if-came-gt0.true)) stands
