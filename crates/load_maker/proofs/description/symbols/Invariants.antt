use Rattle.std.proofs.Common.{◌≡◌}
use Rattle.toml.specs.View.{items_of, items_view}
use Rattle.load_maker.specs.LoadDescription.{symbol_tables}
use Rattle.load_maker.proofs.description.symbols.Given as goal

-- the symbols so far
abbrev pub invariant-loop-i : goal.invariant-loop-i
invariant-loop-i l = items_view l.all.items ≡ items_of (symbol_tables l.i)
