use Rattle.std.proofs.Common.{◌≡◌, ◌++◌, map, take}
use Rattle.type_layout.specs.NamedTypes.{types_of}
use Rattle.description_rules.specs.Placed.{use_view, use_of}
use Rattle.description_table.specs.Views.{symbol_view}
use Rattle.description_rules.proofs.symbol_signals.add_uses.Given as goal

-- the symbols before this one are noted
abbrev pub invariant-loop-symbol : goal.invariant-loop-symbol
invariant-loop-symbol l =
    map use_view l.uses.items ≡ map use_view l.initial.uses.items
    ++ map (use_of (types_of l.known.types) l.signals) (map symbol_view (take l.symbol-index l.symbols))
