use Rattle.std.proofs.Common.{◌≡◌, ◌+◌, List, [], length, map, false, sym, ◌∙◌, ap, arith}
use Rattle.std.proofs.lemmas.List.{length-map}
use Rattle.std.specs.Option.{option_map_or}
use Rattle.spec_rules.specs.Places.{first_wrong}
use Rattle.spec_plant.specs.Shapes.{shape_of_text}
use Rattle.spec_rules.specs.Written.{WrittenPort, WrittenSymbol}
use Rattle.spec_rules.specs.SymbolRules.{is_small}
use Rattle.type_layout.specs.NamedTypes.{types_of}
use Rattle.description_table.specs.Views.{port_view, symbol_view}
use Rattle.description_rules.proofs.ThroughLemmas.{through_from, through_from-right, through_from-wrong}
use Rattle.description_rules.proofs.symbol_types.wrong_type.Goals as goal

pub returns-in-Some : goal.returns-in-Some
returns-in-Some c =
    let types = types_of c.args.known.now.types in
    sym (through_from-wrong (λ (p : WrittenPort). length p.symbols)
    (λ before p. first_wrong (λ earlier (s : WrittenSymbol). option_map_or (is_small types) (shape_of_text types s.type) false) [] p.symbols)
    port_view c.args.ports.now c.loop-port.port-index c.loop-port.count c.in-Some.place c.port-item.result _ c.loop-port-test.true c.port-item.is
    (sym (rw c.as_slice.ensures.value at c.in-Some.ensures)) c.loop-port.invariant.first)

pub loop-port-preserved : goal.loop-port-preserved
loop-port-preserved c =
    let types = types_of c.args.known.now.types in
    let count = λ (p : WrittenPort). length p.symbols in
    let wrong = λ (before : List WrittenPort) (p : WrittenPort). first_wrong
    (λ (earlier : List WrittenSymbol) (s : WrittenSymbol). option_map_or (is_small types) (shape_of_text types s.type) false) [] p.symbols in
    let symbols = c.port-item.result.symbols in
    let longer : length (map symbol_view symbols.items) ≡ c.len.result = omega (arith, length-map symbols.items symbol_view, c.len.ensures, symbols.ok.0) in
    record {
      first = through_from-right count wrong port_view c.args.ports.now c.loop-port.port-index
          c.loop-port.count c.port-item.result _ c.loop-port-test.true c.port-item.is
          (sym (rw c.as_slice.ensures.value at c.wrong_type_in.ensures) ∙ c.in_default.is) c.loop-port.invariant.first
          ∙ ap (λ n. through_from count wrong port_view c.args.ports.now (c.loop-port.port-index + 1) (c.loop-port.count + n))
          longer;
      small = omega (arith, c.loop-port.invariant.small, c.len.type_inv);
    }
