use Rattle.std.proofs.Common.{◌≡◌, ◌≤◌, ◌*◌, ◌^◌, [], length, map}
use Rattle.spec_rules.specs.Places.{first_wrong}
use Rattle.spec_rules.specs.Written.{WrittenPort, WrittenSymbol}
use Rattle.spec_rules.specs.SymbolRules.{wrong_content, is_right_content}
use Rattle.type_layout.specs.NamedTypes.{types_of}
use Rattle.description_table.specs.Views.{port_view}
use Rattle.description_rules.proofs.ThroughLemmas.{through_from}
use Rattle.description_rules.proofs.symbol_contents.wrong_content.Given as goal

-- the symbols of the ports before this one are right
abbrev pub invariant-loop-port : goal.invariant-loop-port
invariant-loop-port l = record {
  first : wrong_content (types_of l.known.types) (map port_view l.ports) ≡ through_from (λ (p : WrittenPort). length p.symbols)
      (λ before p. first_wrong (λ earlier (s : WrittenSymbol). is_right_content (types_of l.known.types) s) [] p.symbols)
      port_view l.ports l.port-index l.count;
  small : l.count ≤ l.port-index * 2 ^ 64;
}
