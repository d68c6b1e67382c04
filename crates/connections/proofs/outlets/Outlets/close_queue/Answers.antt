use Rattle.std.proofs.Common.{◌≤◌, length, sym, ap, ◌∙◌, subst, arith}
use Rattle.out_queue.specs.Open.{frames_of}
use Rattle.connections.specs.Outlets.{Outlets, holding}
use Rattle.connections.proofs.TouchedLemmas.{idle_set}
use Rattle.connections.proofs.OutletLemmas.{set_seen, unchanged_at}
use Rattle.connections.proofs.outlets.Outlets.close_queue.Goals as goal

pub invariant_of-self : goal.invariant_of-self
invariant_of-self c =
    idle_set c.self.inside.touched c.with-self-inside.result c.self.inside.entries.entries c.args.i c.take_back.new.self
    c.self.invariant c.with-self-inside.ensures

pub returns-then-i-len : goal.returns-then-i-len
returns-then-i-len c =
    let o = c.index_mut-outlet.result.now in
    set_seen (holding (frames_of c.args.queue) c.args.closes) c.self.inside.entries.entries c.args.self.now c.args.i o c.take_back.new.self
    c.self.view_is c.index_mut-outlet.ensures.value (c.take_back.ensures ∙ ap (λ fs. holding fs c.args.closes o) c.close.ensures)

pub returns-else-i-len : goal.returns-else-i-len
returns-else-i-len c =
    sym (unchanged_at (holding (frames_of c.args.queue) c.args.closes) c.args.self.now c.args.i
    (subst (λ (es : Outlets). length es ≤ c.args.i) c.self.view_is (omega (arith, c.if-i-len.false, c.len.ensures.len))))
