use Rattle.std.proofs.Common.{List, sym, ◌∙◌, ap, subst}
use Rattle.std.specs.Prelude.{All}
use Rattle.std.specs.Arc.{arc_value}
use Rattle.spec_plant.specs.AcceptedTypes.{AreTypes}
use Rattle.type_layout.specs.Descriptions.{port_of, ports_of, description_of}
use Rattle.type_layout.specs.NamedTypes.{types_of}
use Rattle.type_layout.specs.declared.port.PortDesc.{PortDesc}
use Rattle.port_device.specs.Manners.{manner_of}
use Rattle.port_device.specs.FirstPorts.{IsOfAccepted, AreFirstPorts}
use Rattle.port_device.proofs.BuiltLemmas.{each_of_built, types_of_built, first_ports_hold}
use Rattle.port_device.proofs.ports.Ports.build_in.Goals as goal

pub types_size-requires : goal.types_size-requires
types_size-requires c =
    let same = ap types_of c.deref.ensures ∙ c.in_ok-types.ensures in
    subst AreTypes (sym same) (types_of_built (description_of c.args.d.now) c.requires)

pub first_ports-requires-clause-each : goal.first_ports-requires-clause-each
first_ports-requires-clause-each c =
    let types = types_of (arc_value c.in_ok-types.types) in
    let P : List PortDesc → Type 0 = λ ps. All (λ (p : PortDesc). IsOfAccepted types (port_of p)) ps in
    subst P (sym c.as_slice.ensures) (each_of_built c.args.d.now types c.requires (sym c.in_ok-types.ensures))

pub returns : goal.returns
returns c =
    let types = types_of (arc_value c.in_ok-types.types) in
    let P : List PortDesc → Type 0 = λ ps. AreFirstPorts types 1 (manner_of c.args.manner) (ports_of ps) c.in_ok-ports.ports.items in
    let first = subst P c.as_slice.ensures c.in_ok-ports.ensures in
    λ others signals.
    first_ports_hold (record { manner = manner_of c.args.manner; others = others }) (description_of c.args.d.now) signals types
    c.in_ok-ports.ports.items c.requires (sym c.in_ok-types.ensures) first

pub invariant_of-result : goal.invariant_of-result
invariant_of-result c = subst AreTypes (sym c.in_ok-types.ensures) (types_of_built (description_of c.args.d.now) c.requires)
