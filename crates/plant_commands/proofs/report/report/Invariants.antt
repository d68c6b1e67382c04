-- The ports so far are told of.
use Rattle.std.proofs.Common.{◌≡◌, ◌++◌, drop}
use Rattle.std.specs.Prelude.{flat_map}
use Rattle.type_layout.specs.NamedTypes.{types_of}
use Rattle.type_layout.specs.Descriptions.{ports_of}
use Rattle.run_tasks.specs.Report.{port_line}
use Rattle.plant_commands.proofs.report.report.Given as goal

abbrev pub invariant-loop-port : goal.invariant-loop-port
invariant-loop-port l =
    l.out ++ flat_map (port_line (types_of l.d.types)) (ports_of (drop l.port-index l.d.ports))
    ≡ flat_map (port_line (types_of l.fn.d.types)) (ports_of l.fn.d.ports)
