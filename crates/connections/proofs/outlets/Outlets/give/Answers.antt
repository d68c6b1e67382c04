use Rattle.std.proofs.Common.{◌≤◌, length, sym, ap, subst, arith}
use Rattle.connections.specs.Outlets.{Outlets, given, is_fitting, test_in}
use Rattle.connections.proofs.TouchedLemmas.{idle_set}
use Rattle.connections.proofs.OutletLemmas.{set_ok, set_err, unchanged_at, no_outlet}
use Rattle.connections.proofs.outlets.Outlets.give.Goals as goal

pub returns-then-i-len-clause-given : goal.returns-then-i-len-clause-given
returns-then-i-len-clause-given c =
    sym (unchanged_at (given c.args.frame.now) c.args.self.now c.args.i
    (subst (λ (es : Outlets). length es ≤ c.args.i) c.self.view_is (omega (arith, c.if-i-len.true, c.len.ensures.len))))

pub returns-then-i-len-clause-fitted : goal.returns-then-i-len-clause-fitted
returns-then-i-len-clause-fitted c =
    sym (ap (λ o. test_in (is_fitting c.args.frame.now) o) (no_outlet c.args.self.now c.args.i
    (subst (λ (es : Outlets). length es ≤ c.args.i) c.self.view_is (omega (arith, c.if-i-len.true, c.len.ensures.len)))))

pub invariant_of-self : goal.invariant_of-self
invariant_of-self c =
    idle_set c.self.inside.touched c.with-self-inside.result c.self.inside.entries.entries c.args.i c.give.new.self
    c.self.invariant c.with-self-inside.ensures

pub returns-clause-given : goal.returns-clause-given
returns-clause-given c =
    set_ok c.give.result (given c.args.frame.now) c.self.inside.entries.entries c.args.self.now c.args.i c.index_mut-outlet.result.now c.give.new.self
    c.self.view_is c.index_mut-outlet.ensures.value c.give.ensures.given

pub returns-clause-no_memory : goal.returns-clause-no_memory
returns-clause-no_memory c =
    set_err c.give.result c.self.inside.entries.entries c.args.self.now c.args.i c.index_mut-outlet.result.now c.give.new.self
    c.self.view_is c.index_mut-outlet.ensures.value c.give.ensures.no_memory
