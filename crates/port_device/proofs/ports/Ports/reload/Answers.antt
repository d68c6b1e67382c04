use Rattle.std.proofs.Common.{ℕ, ◌+◌, List, length, sym, ◌∙◌, ap, subst}
use Rattle.std.specs.Prelude.{All, ◌%◌}
use Rattle.std.specs.Arc.{arc_value}
use Rattle.spec_plant.specs.AcceptedTypes.{AreTypes}
use Rattle.spec_plant.specs.Listed.{NamedType}
use Rattle.type_layout.specs.Descriptions.{port_of, ports_of, description_of}
use Rattle.type_layout.specs.NamedTypes.{types_of}
use Rattle.type_layout.specs.SameShapes.{ArePartners}
use Rattle.type_layout.specs.declared.port.PortDesc.{PortDesc}
use Rattle.port_device.specs.Manners.{manner_of}
use Rattle.port_device.specs.FirstPorts.{IsOfAccepted}
use Rattle.port_device.specs.Holds.{HoldsPorts}
use Rattle.port_device.specs.InsidePorts.{ports_in}
use Rattle.port_device.specs.Moved.{HasTypes}
use Rattle.port_device.specs.PortMemory.{PortsMemory}
use Rattle.port_device.specs.Reloaded.{AreCompared}
use Rattle.port_device.specs.ReloadedPorts.{AreReloadedPorts}
use Rattle.port_device.proofs.BuiltLemmas.{accepted_may_be_built, each_of_built}
use Rattle.port_device.proofs.KeptLemmas.{held-types}
use Rattle.port_device.proofs.ReloadedPorts.{reloaded-ports-hold}
use Rattle.port_device.proofs.ports.Ports.reload.Goals as goal

pub types_size-requires : goal.types_size-requires
types_size-requires c =
    let same = ap types_of c.deref.ensures ∙ c.in_ok-types.ensures in
    subst AreTypes (sym same) c.requires.is.types

pub reloaded_ports-requires-clause-each : goal.reloaded_ports-requires-clause-each
reloaded_ports-requires-clause-each c =
    let types = types_of (arc_value c.in_ok-types.types) in
    let P : List PortDesc → Type 0 = λ ps. All (λ (p : PortDesc). IsOfAccepted types (port_of p)) ps in
    subst P (sym c.as_slice.ensures)
    (each_of_built c.args.d.now types (accepted_may_be_built (description_of c.args.d.now) c.requires) (sym c.in_ok-types.ensures))

pub returns : goal.returns
returns c = λ w held.
    let old : PortsMemory = ports_in c.self.inside in
    let types = types_of (arc_value c.in_ok-types.types) in
    let version : ℕ = (c.self.inside.version + 1) % 256 in
    let manner = manner_of c.self.inside.manner in
    let h : HoldsPorts w old = subst (HoldsPorts w) (sym c.self.view_is) held in
    let P : List NamedType → Type 0 = λ ts. ArePartners ts (types_of c.deref-3.result.now) (length ts) c.in_ok-same.same in
    let Q : List NamedType → Type 0 = λ ts. ArePartners old.types ts (length old.types) c.in_ok-same.same in
    let partners = subst Q (ap types_of c.deref-3.ensures) (subst P (ap types_of c.deref-2.ensures) c.in_ok-same.ensures) in
    let new : AreTypes types = subst AreTypes (sym c.in_ok-types.ensures) c.requires.is.types in
    let compared : AreCompared old.types types c.in_ok-same.same = record { old_types = c.self.invariant; new_types = new; partners = partners } in
    let T : List NamedType → Type 0 = λ ts. All (HasTypes ts) old.ports in
    let all : All (HasTypes old.types) old.ports = subst T (sym h.types) (held-types w w.plant.ports old.ports h.each) in
    let R : PortsMemory → Type 0 = λ x. (before : List NamedType) → AreCompared before types c.in_ok-same.same → All (HasTypes before) x.ports
    → AreReloadedPorts x.ports types version manner (ports_of c.as_slice.result.now) c.in_ok-ports.ports.items in
    let S : List PortDesc → Type 0 = λ ps. AreReloadedPorts old.ports types version manner (ports_of ps) c.in_ok-ports.ports.items in
    let reloaded = subst S c.as_slice.ensures (subst R (sym c.self.view_is) c.in_ok-ports.ensures old.types compared all) in
    reloaded-ports-hold w old (description_of c.args.d.now) types version manner c.in_ok-ports.ports.items h c.requires (sym c.in_ok-types.ensures)
    (ap (λ n. (n + 1) % 256) (sym h.version)) (sym h.manner) reloaded
