-- The entries so far are ranked.
use Rattle.symbol_table.specs.Ranks.{RanksFirst, rank_by_symbol, is_any}
use Rattle.symbol_table.proofs.index.index_by_symbol.Given as goal

abbrev pub invariant-loop-entry : goal.invariant-loop-entry
invariant-loop-entry l = RanksFirst rank_by_symbol is_any l.kept l.entry l.ranked.items
