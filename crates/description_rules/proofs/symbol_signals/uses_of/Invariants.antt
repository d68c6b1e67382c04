use Rattle.std.proofs.Common.{◌≡◌, map, take}
use Rattle.std.specs.Prelude.{flat_map}
use Rattle.spec_rules.specs.Written.{WrittenPort}
use Rattle.type_layout.specs.NamedTypes.{types_of}
use Rattle.description_rules.specs.Placed.{use_view, use_of}
use Rattle.description_table.specs.Views.{port_view}
use Rattle.description_rules.proofs.symbol_signals.uses_of.Given as goal

-- the symbols of the ports before this one are noted
abbrev pub invariant-loop-port : goal.invariant-loop-port
invariant-loop-port l =
    map use_view l.uses.items ≡ map (use_of (types_of l.known.types) l.signals)
    (flat_map (λ (p : WrittenPort). p.symbols) (map port_view (take l.port-index l.ports)))
