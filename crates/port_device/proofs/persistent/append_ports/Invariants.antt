-- The entries of the ports before this one are written.
use Rattle.std.proofs.Common.{◌≡◌, ◌++◌, take}
use Rattle.std.specs.Prelude.{flat_map}
use Rattle.std.specs.List.{All}
use Rattle.spec_store.specs.BodyText.{entry_bytes, FitsEntry}
use Rattle.port_device.specs.PersistentRows.{ports_entries}
use Rattle.port_device.proofs.persistent.append_ports.Given as goal

abbrev pub invariant-loop-port : goal.invariant-loop-port
invariant-loop-port l =
    (l.out ≡ l.initial.out ++ flat_map entry_bytes (ports_entries (take l.port-index l.ports))) × All FitsEntry (ports_entries (take l.port-index l.ports))
