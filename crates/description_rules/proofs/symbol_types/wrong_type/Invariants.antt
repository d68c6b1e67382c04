use Rattle.std.proofs.Common.{◌≡◌, ◌≤◌, ◌*◌, ◌^◌, [], length, map, false}
use Rattle.std.specs.Option.{option_map_or}
use Rattle.spec_rules.specs.Places.{first_wrong}
use Rattle.spec_plant.specs.Shapes.{shape_of_text}
use Rattle.spec_rules.specs.Written.{WrittenPort, WrittenSymbol}
use Rattle.spec_rules.specs.SymbolRules.{wrong_type, is_small}
use Rattle.type_layout.specs.NamedTypes.{types_of}
use Rattle.description_table.specs.Views.{port_view}
use Rattle.description_rules.proofs.ThroughLemmas.{through_from}
use Rattle.description_rules.proofs.symbol_types.wrong_type.Given as goal

-- the symbols of the ports before this one are right
abbrev pub invariant-loop-port : goal.invariant-loop-port
invariant-loop-port l = record {
  first : wrong_type (types_of l.known.types) (map port_view l.ports) ≡ through_from (λ (p : WrittenPort). length p.symbols)
      (λ before p. first_wrong
      (λ earlier (s : WrittenSymbol). option_map_or (is_small (types_of l.known.types)) (shape_of_text (types_of l.known.types) s.type) false) [] p.symbols)
      port_view l.ports l.port-index l.count;
  small : l.count ≤ l.port-index * 2 ^ 64;
}
