-- What stands behind the ports that are left is what stands behind all.
use Rattle.std.proofs.Common.{◌≡◌, drop}
use Rattle.port_device.specs.Behind.{behind}
use Rattle.port_device.specs.PersistentRows.{port_entries}
use Rattle.port_device.proofs.BehindLemmas.{texts_of}
use Rattle.port_device.proofs.persists.behind_ports.Given as goal

abbrev pub invariant-loop-port : goal.invariant-loop-port
invariant-loop-port l =
    behind (texts_of port_entries (drop l.port-index l.ports)) l.rest ≡ behind (texts_of port_entries l.ports) l.bytes
