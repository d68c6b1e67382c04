use Rattle.std.proofs.Common.{◌≡◌, ◌≤◌, length, Some, sym, ap, ◌∙◌, subst, arith}
use Rattle.connections.specs.Outlets.{Outlets, frames_in, outlet_at, with_nothing}
use Rattle.connections.proofs.TouchedLemmas.{idle_set}
use Rattle.connections.proofs.OutletLemmas.{set_seen, unchanged_at, no_outlet}
use Rattle.connections.proofs.outlets.Outlets.open_queue.Goals as goal

pub returns-then-i-len-clause-frames : goal.returns-then-i-len-clause-frames
returns-then-i-len-clause-frames c =
    c.open.ensures.frames ∙ c.in_ok-none.ensures ∙ sym (ap frames_in (no_outlet c.args.self.now c.args.i
    (subst (λ (es : Outlets). length es ≤ c.args.i) c.self.view_is (omega (arith, c.if-i-len.true, c.len.ensures.len)))))

pub returns-then-i-len-clause-rest : goal.returns-then-i-len-clause-rest
returns-then-i-len-clause-rest c =
    sym (unchanged_at with_nothing c.args.self.now c.args.i
    (subst (λ (es : Outlets). length es ≤ c.args.i) c.self.view_is (omega (arith, c.if-i-len.true, c.len.ensures.len))))

pub invariant_of-self : goal.invariant_of-self
invariant_of-self c =
    idle_set c.self.inside.touched c.with-self-inside.result c.self.inside.entries.entries c.args.i c.lend.new.self
    c.self.invariant c.with-self-inside.ensures

pub returns-clause-frames : goal.returns-clause-frames
returns-clause-frames c =
    let o = c.index_mut-outlet.result.now in
    c.open-2.ensures.frames ∙ c.lend.ensures.out
    ∙ sym (ap frames_in (subst (λ (es : Outlets). outlet_at es c.args.i ≡ Some o) c.self.view_is c.index_mut-outlet.ensures.value))

pub returns-clause-rest : goal.returns-clause-rest
returns-clause-rest c =
    set_seen with_nothing c.self.inside.entries.entries c.args.self.now c.args.i c.index_mut-outlet.result.now c.lend.new.self
    c.self.view_is c.index_mut-outlet.ensures.value c.lend.ensures.rest
