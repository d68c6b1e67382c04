use Rattle.std.proofs.Common.{◌≡◌, [], map}
use Rattle.spec_rules.specs.Written.{WrittenSymbol}
use Rattle.spec_rules.specs.Places.{first_wrong}
use Rattle.spec_rules.specs.SymbolRules.{is_right_content}
use Rattle.type_layout.specs.NamedTypes.{types_of}
use Rattle.description_table.specs.Views.{symbol_view}
use Rattle.description_rules.proofs.FirstLemmas.{first_from}
use Rattle.description_rules.proofs.symbol_contents.wrong_content_in.Given as goal

-- those before this one are right
abbrev pub invariant-loop-i : goal.invariant-loop-i
invariant-loop-i l =
    first_wrong (λ before (s : WrittenSymbol). is_right_content (types_of l.known.types) s) [] (map symbol_view l.symbols)
    ≡ first_from (λ before (s : WrittenSymbol). is_right_content (types_of l.known.types) s) symbol_view l.symbols l.i
