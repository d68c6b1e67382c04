-- The ports that the code's value is. No public clause cites this file.
use Rattle.std.specs.Arc.{arc_value}
use Rattle.type_layout.specs.NamedTypes.{types_of}
use Rattle.port_device.specs.declared.ports.Ports.TheInside.{Inside}
use Rattle.port_device.specs.Manners.{manner_of}
use Rattle.port_device.specs.PortMemory.{PortsMemory}

abbrev pub ports_in : Inside → PortsMemory
ports_in p = record { types = types_of (arc_value p.types); version = p.version; manner = manner_of p.manner; ports = p.ports.items }
