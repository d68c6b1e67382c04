-- One port more.
use Rattle.std.proofs.Common.{map}
use Rattle.spec_plant.specs.Description.{Port}
use Rattle.spec_persistent.specs.Stored.{port_with_stored}
use Rattle.type_layout.specs.Descriptions.{port_of}
use Rattle.type_layout.specs.NamedTypes.{types_of}
use Rattle.persist_store.specs.Entries.{entry_meant}
use Rattle.stored_values.specs.StoredBodies.{AreSized}
use Rattle.stored_values.proofs.MappedTurns.{turn_mapped, next_holds}
use Rattle.stored_values.proofs.ports.store_ports.Goals as goal

pub store_port-requires-clause-sized : goal.store_port-requires-clause-sized
store_port-requires-clause-sized c =
    next_holds (λ (p : Port). AreSized (types_of c.args.types.now) p.symbols) port_of
    (port_with_stored (map entry_meant c.args.entries.now) (types_of c.args.types.now))
    c.args.ports.now c.loop-port.ports c.loop-port.port-index c.port-item.result c.loop-port-test.true c.loop-port.invariant c.requires.sized

pub loop-port-preserved : goal.loop-port-preserved
loop-port-preserved c =
    turn_mapped port_of (port_with_stored (map entry_meant c.args.entries.now) (types_of c.args.types.now))
    c.args.ports.now c.loop-port.ports c.loop-port.port-index c.port-item.result
    c.store_port.new.port c.loop-port-test.true c.loop-port.invariant c.in_ok-store_port.ensures
