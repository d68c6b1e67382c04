use Rattle.std.proofs.Common.{subst, arith}
use Rattle.server_core.specs.Serves.{offer_in}
use Rattle.local_link.specs.Giving.{CopiesOffer}
use Rattle.local_link.proofs.Waits.{took_none, took_some, took_whole}
use Rattle.local_link.proofs.waiting.take_waiting.Goals as goal

pub returns-then-n-eq0-clause-takes : goal.returns-then-n-eq0-clause-takes
returns-then-n-eq0-clause-takes g c = λ s serves.
    let copies = subst (λ n. CopiesOffer n (offer_in c.args.core.now 1) c.copy_offer-n.new.buf) c.if-n-eq0.true c.copy_offer-n.ensures.copies in
    took_none c.args.core.now s c.copy_offer-n.new.buf copies c.copy_offer-n.ensures.machine serves

pub returns-clause-takes : goal.returns-clause-takes
returns-clause-takes g c = λ s serves.
    took_some c.args.core.now c.took.new.self c.step.new.core s c.copy_offer-n.result c.copy_offer-n.new.buf (omega (arith, c.if-n-eq0.false))
    c.copy_offer-n.ensures.copies c.copy_offer-n.ensures.machine c.took.ensures.follows c.in_ok-step.ensures serves

pub returns-then-n-eq0-clause-whole : goal.returns-then-n-eq0-clause-whole
returns-then-n-eq0-clause-whole g c = λ some s serves. absurd (omega (arith, some))

pub returns-clause-whole : goal.returns-clause-whole
returns-clause-whole g c = λ some s serves.
    took_whole c.args.core.now s c.copy_offer-n.result _ c.copy_offer-n.new.buf c.copy_offer-n.auto.buf some
    c.copy_offer-n.ensures.copies c.copy_offer-n.ensures.machine serves
