use Rattle.std.proofs.Common.{◌≡◌, [], map, false}
use Rattle.std.specs.Option.{option_map_or}
use Rattle.spec_rules.specs.Written.{WrittenSymbol}
use Rattle.spec_rules.specs.Places.{first_wrong}
use Rattle.spec_plant.specs.Shapes.{shape_of_text}
use Rattle.spec_rules.specs.SymbolRules.{is_small}
use Rattle.type_layout.specs.NamedTypes.{types_of}
use Rattle.description_table.specs.Views.{symbol_view}
use Rattle.description_rules.proofs.FirstLemmas.{first_from}
use Rattle.description_rules.proofs.symbol_types.wrong_type_in.Given as goal

-- those before this one are right
abbrev pub invariant-loop-i : goal.invariant-loop-i
invariant-loop-i l =
    first_wrong (λ before (s : WrittenSymbol). option_map_or (is_small (types_of l.known.types)) (shape_of_text (types_of l.known.types) s.type) false) []
    (map symbol_view l.symbols)
    ≡ first_from (λ before (s : WrittenSymbol). option_map_or (is_small (types_of l.known.types)) (shape_of_text (types_of l.known.types) s.type) false)
    symbol_view l.symbols l.i
