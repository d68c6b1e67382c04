use Rattle.std.proofs.Common.{◌≡◌, List, length, sym, ◌∙◌, ap, subst}
use Rattle.std.specs.Prelude.{All}
use Rattle.spec_plant.specs.Listed.{NamedType}
use Rattle.type_layout.specs.NamedTypes.{types_of}
use Rattle.type_layout.specs.SameShapes.{ArePartners}
use Rattle.spec_machine.specs.NumberedPlaces.{AreKeptSymbols}
use Rattle.port_device.specs.Holds.{HoldsPorts}
use Rattle.port_device.specs.InsidePorts.{ports_in}
use Rattle.port_device.specs.KeptSymbols.{kept_symbols_of}
use Rattle.port_device.specs.Moved.{entries_between, HasTypes}
use Rattle.port_device.specs.Reloaded.{AreCompared}
use Rattle.port_device.specs.PortMemory.{PortsMemory}
use Rattle.port_device.proofs.KeptLemmas.{held-apart, held-two_numbers}
use Rattle.port_device.proofs.KeptEntries.{entries-told, entries-are_kept}
use Rattle.port_device.proofs.MovedEntries.{are-kept, between-apart, ShareNothingInPairs}
use Rattle.port_device.proofs.ports.Ports.moves.Goals as goal

pub build-requires-2 : goal.build-requires-2
build-requires-2 c =
    let old : PortsMemory = ports_in c.self.inside in
    let new : PortsMemory = ports_in c.new.inside in
    let w = c.requires.old.world in
    let v = c.requires.new.world in
    let h : HoldsPorts w old = subst (HoldsPorts w) (sym c.self.view_is) c.requires.old.holds in
    let k : HoldsPorts v new = subst (HoldsPorts v) (sym c.new.view_is) c.requires.new.holds in
    let P : List NamedType → Type 0 = λ ts. ArePartners ts (types_of c.deref-2.result.now) (length ts) c.in_ok-same.same in
    let Q : List NamedType → Type 0 = λ ts. ArePartners old.types ts (length old.types) c.in_ok-same.same in
    let partners = subst Q (ap types_of c.deref-2.ensures) (subst P (ap types_of c.deref.ensures) c.in_ok-same.ensures) in
    let R : PortsMemory → Type 0 = λ x. (before types : List NamedType)
    → AreCompared before types c.in_ok-same.same → All (HasTypes before) c.as_slice.result.now
    → All (HasTypes types) x.ports → kept_symbols_of c.in_ok-kept.kept ≡ entries_between c.as_slice.result.now x.ports in
    let told = entries-told w v old new c.in_ok-same.same c.as_slice.result.now (kept_symbols_of c.in_ok-kept.kept) c.self.invariant c.new.invariant partners
    c.as_slice.ensures.value (subst R (sym c.new.view_is) c.in_ok-kept.ensures.kept) h k in
    are-kept c.in_ok-kept.kept c.in_ok-kept.ensures.fit (subst ShareNothingInPairs (sym told) (between-apart old.ports new.ports
    (held-two_numbers w w.plant.ports old.ports h.each h.apart) (held-apart w w.plant.ports old.ports h.each)))

pub returns : goal.returns
returns c = λ w v h_now k_now.
    let old : PortsMemory = ports_in c.self.inside in
    let new : PortsMemory = ports_in c.new.inside in
    let h : HoldsPorts w old = subst (HoldsPorts w) (sym c.self.view_is) h_now in
    let k : HoldsPorts v new = subst (HoldsPorts v) (sym c.new.view_is) k_now in
    let P : List NamedType → Type 0 = λ ts. ArePartners ts (types_of c.deref-2.result.now) (length ts) c.in_ok-same.same in
    let Q : List NamedType → Type 0 = λ ts. ArePartners old.types ts (length old.types) c.in_ok-same.same in
    let partners = subst Q (ap types_of c.deref-2.ensures) (subst P (ap types_of c.deref.ensures) c.in_ok-same.ensures) in
    let R : PortsMemory → Type 0 = λ x. (before types : List NamedType)
    → AreCompared before types c.in_ok-same.same → All (HasTypes before) c.as_slice.result.now
    → All (HasTypes types) x.ports → kept_symbols_of c.in_ok-kept.kept ≡ entries_between c.as_slice.result.now x.ports in
    let told = entries-told w v old new c.in_ok-same.same c.as_slice.result.now (kept_symbols_of c.in_ok-kept.kept) c.self.invariant c.new.invariant partners
    c.as_slice.ensures.value (subst R (sym c.new.view_is) c.in_ok-kept.ensures.kept) h k in
    subst (AreKeptSymbols w.plant v.plant) (sym told ∙ ap kept_symbols_of (sym c.in_ok-moves.ensures)) (entries-are_kept w v old new h k)
