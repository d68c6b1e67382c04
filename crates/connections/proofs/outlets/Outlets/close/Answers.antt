use Rattle.std.proofs.Common.{◌≤◌, length, sym, subst, arith}
use Rattle.connections.specs.Outlets.{Outlets, closed}
use Rattle.connections.proofs.TouchedLemmas.{idle_set}
use Rattle.connections.proofs.OutletLemmas.{set_seen, unchanged_at}
use Rattle.connections.proofs.outlets.Outlets.close.Goals as goal

pub invariant_of-self : goal.invariant_of-self
invariant_of-self c =
    idle_set c.self.inside.touched c.with-self-inside.result c.self.inside.entries.entries c.args.i c.close.new.self
    c.self.invariant c.with-self-inside.ensures

pub returns-then-i-len : goal.returns-then-i-len
returns-then-i-len c =
    set_seen closed c.self.inside.entries.entries c.args.self.now c.args.i c.index_mut-outlet.result.now c.close.new.self
    c.self.view_is c.index_mut-outlet.ensures.value c.close.ensures

pub returns-else-i-len : goal.returns-else-i-len
returns-else-i-len c =
    sym (unchanged_at closed c.args.self.now c.args.i
    (subst (λ (es : Outlets). length es ≤ c.args.i) c.self.view_is (omega (arith, c.if-i-len.false, c.len.ensures.len))))
