use Rattle.std.proofs.Common.{sym}
use Rattle.connections.specs.Outlets.{freed}
use Rattle.connections.proofs.TouchedLemmas.{idle_set}
use Rattle.connections.proofs.OutletLemmas.{set_of, unchanged_of}
use Rattle.connections.proofs.outlets.Outlets.free.Goals as goal

pub invariant_of-self : goal.invariant_of-self
invariant_of-self c =
    idle_set c.self.inside.touched c.with-self-inside.result c.self.inside.entries.entries c.in-Some.i c.free.new.self
    c.self.invariant c.with-self-inside.ensures

pub returns-in-Some : goal.returns-in-Some
returns-in-Some c =
    set_of freed c.self.inside.entries.entries c.args.self.now c.args.number c.in-Some.i c.index_mut-outlet.result.now c.free.new.self
    c.self.view_is c.in-Some.ensures.found c.index_mut-outlet.ensures.value c.free.ensures

pub returns-in_default : goal.returns-in_default
returns-in_default c = sym (unchanged_of freed c.args.self.now c.args.number c.in_default.ensures.absent)
