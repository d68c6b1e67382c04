use Rattle.std.proofs.Common.{◌≡◌, map, take}
use Rattle.spec_rules.specs.Described.{symbol_described}
use Rattle.type_layout.specs.NamedTypes.{types_of}
use Rattle.type_layout.specs.Descriptions.{symbols_of}
use Rattle.description_table.specs.Views.{symbol_view}
use Rattle.symbol_file.proofs.symbols.symbols_of.Given as goal

-- the symbols before this one are built
abbrev pub invariant-loop-symbol : goal.invariant-loop-symbol
invariant-loop-symbol l =
    symbols_of l.built ≡ map (symbol_described (types_of l.known.types)) (map symbol_view (take l.symbol-index l.symbols))
