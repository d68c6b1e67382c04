use Rattle.std.proofs.Common.{List, take}
use Rattle.std.specs.Prelude.{All}
use Rattle.std.specs.Arc.{arc_value}
use Rattle.spec_plant.specs.Listed.{NamedType}
use Rattle.type_layout.specs.Descriptions.{ports_of}
use Rattle.type_layout.specs.NamedTypes.{types_of}
use Rattle.port_device.specs.Manners.{manner_of}
use Rattle.port_device.specs.Moved.{HasTypes}
use Rattle.port_device.specs.Reloaded.{AreCompared}
use Rattle.port_device.specs.ReloadedPorts.{AreReloadedPorts}
use Rattle.port_device.proofs.reloading.reloaded_ports.Given as goal

-- the ports before this one are reloaded
abbrev pub invariant-loop-d : goal.invariant-loop-d
invariant-loop-d l =
    (before : List NamedType) → AreCompared before (types_of (arc_value l.types)) l.same → All (HasTypes before) l.old.ports
    → AreReloadedPorts l.old.ports (types_of (arc_value l.types)) l.version (manner_of l.manner) (ports_of (take l.d-index l.ports)) l.built.items
