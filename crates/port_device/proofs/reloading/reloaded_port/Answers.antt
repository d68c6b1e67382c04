use Rattle.std.specs.Arc.{arc_value}
use Rattle.type_layout.specs.Descriptions.{port_of}
use Rattle.type_layout.specs.NamedTypes.{types_of}
use Rattle.port_device.proofs.ReloadedPorts.{of_accepted-whole}
use Rattle.port_device.proofs.reloading.reloaded_port.Goals as goal

pub keep_in-requires : goal.keep_in-requires
keep_in-requires c =
    of_accepted-whole (types_of (arc_value c.args.types.now)) (port_of c.args.d.now) c.in_ok-port.port.table c.requires.accepted c.in_ok-port.ensures.table
