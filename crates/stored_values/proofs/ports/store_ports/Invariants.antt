-- the symbols of the ports before this one begin with what is stored of them
use Rattle.std.proofs.Common.{◌≡◌, map}
use Rattle.type_layout.specs.Descriptions.{port_of}
use Rattle.type_layout.specs.NamedTypes.{types_of}
use Rattle.persist_store.specs.Entries.{entry_meant}
use Rattle.spec_persistent.specs.Stored.{port_with_stored}
use Rattle.stored_values.proofs.MappedTurns.{changed_to}
use Rattle.stored_values.proofs.ports.store_ports.Given as goal

abbrev pub invariant-loop-port : goal.invariant-loop-port
invariant-loop-port l =
    map port_of l.ports ≡ changed_to port_of (port_with_stored (map entry_meant l.entries) (types_of l.types)) l.initial.ports l.port-index
