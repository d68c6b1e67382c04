use Rattle.std.proofs.Common.{take}
use Rattle.std.specs.Arc.{arc_value}
use Rattle.type_layout.specs.Descriptions.{ports_of}
use Rattle.type_layout.specs.NamedTypes.{types_of}
use Rattle.port_device.specs.Manners.{manner_of}
use Rattle.port_device.specs.FirstPorts.{AreFirstPorts}
use Rattle.port_device.proofs.building.first_ports.Given as goal

-- the ports before this one are built
abbrev pub invariant-loop-d : goal.invariant-loop-d
invariant-loop-d l = AreFirstPorts (types_of (arc_value l.types)) l.version (manner_of l.manner) (ports_of (take l.d-index l.ports)) l.built.items
