use Rattle.std.proofs.Common.{◌≡◌, map, take}
use Rattle.spec_rules.specs.Described.{port_described}
use Rattle.type_layout.specs.NamedTypes.{types_of}
use Rattle.type_layout.specs.Descriptions.{ports_of}
use Rattle.description_table.specs.Views.{port_view}
use Rattle.symbol_file.proofs.ports.ports_of.Given as goal

-- the ports before this one are built
abbrev pub invariant-loop-port : goal.invariant-loop-port
invariant-loop-port l =
    ports_of l.built ≡ map (port_described (types_of l.known.types)) (map port_view (take l.port-index l.ports))
