use Rattle.std.proofs.Common.{◌≡◌, [], map, take}
use Rattle.spec_rules.specs.Places.{first_wrong}
use Rattle.spec_rules.specs.SymbolRules.{is_right_name}
use Rattle.description_table.specs.Views.{symbol_view}
use Rattle.description_rules.specs.NameStarts.{AreNoted}
use Rattle.description_rules.specs.NextName.{name_view}
use Rattle.description_rules.proofs.FirstLemmas.{first_from}
use Rattle.description_rules.proofs.symbol_names.first_wrong_name.Given as goal

-- the symbols before this one are right, and their names noted
abbrev pub invariant-loop-i : goal.invariant-loop-i
invariant-loop-i l = record {
  first : first_wrong is_right_name [] (map symbol_view l.symbols) ≡ first_from is_right_name symbol_view l.symbols l.i;
  noted : AreNoted (map name_view (take l.i l.symbols)) l.whole l.starts;
}
