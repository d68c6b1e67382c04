-- The persistent symbols of the ports before this one are counted.
use Rattle.std.proofs.Common.{◌≡◌, ◌<◌, ◌^◌, length, take}
use Rattle.std.specs.List.{All}
use Rattle.port_device.specs.PersistentRows.{ports_entries, HasNumber}
use Rattle.port_device.proofs.persistent.count_all.Given as goal

abbrev pub invariant-loop-port : goal.invariant-loop-port
invariant-loop-port l =
    (length (ports_entries (take l.port-index l.ports)) < 2 ^ 32 → l.count ≡ length (ports_entries (take l.port-index l.ports)))
    × All HasNumber (take l.port-index l.ports)
