use Rattle.std.proofs.Common.{◌≡◌, [], map}
use Rattle.spec_rules.specs.Places.{first_wrong}
use Rattle.spec_rules.specs.SymbolRules.{is_right_writer}
use Rattle.description_table.specs.Views.{text_view}
use Rattle.description_rules.proofs.FirstLemmas.{first_from}
use Rattle.description_rules.proofs.symbol_contents.first_wrong_writer.Given as goal

-- those before this one are right
abbrev pub invariant-loop-i : goal.invariant-loop-i
invariant-loop-i l = first_wrong is_right_writer [] (map text_view l.texts) ≡ first_from is_right_writer text_view l.texts l.i
