use Rattle.std.proofs.Common.{◌≡◌, ◌+◌, drop}
use Rattle.port_device.specs.PlaceOfPort.{place_numbered}
use Rattle.port_device.proofs.ports.place_of.Given as goal

-- the port is none of those before
abbrev pub invariant-loop-i : goal.invariant-loop-i
invariant-loop-i l = place_numbered l.ams_port l.ports ≡ l.i + place_numbered l.ams_port (drop l.i l.ports)
