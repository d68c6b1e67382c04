-- The ports of an accepted description are sized.
use Rattle.std.proofs.Common.{List, map, sym, subst}
use Rattle.type_layout.specs.Descriptions.{port_of, description_of}
use Rattle.type_layout.specs.NamedTypes.{types_of}
use Rattle.type_layout.specs.declared.port.PortDesc.{PortDesc}
use Rattle.stored_values.specs.StoredBodies.{AreSizedPorts}
use Rattle.stored_values.proofs.SizedSymbols.{accepted_sized}
use Rattle.stored_values.proofs.storing.with_entries.Goals as goal

pub store_ports-requires-clause-sized : goal.store_ports-requires-clause-sized
store_ports-requires-clause-sized c =
    let P : List PortDesc → Type 0 = λ ports. AreSizedPorts (types_of c.args.d.types) (map port_of ports) in
    subst P (sym c.as_mut_slice.ensures.value) (accepted_sized (description_of c.args.d) c.requires.accepted)
