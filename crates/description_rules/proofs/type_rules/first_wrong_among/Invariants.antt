use Rattle.std.proofs.Common.{◌≡◌, [], map, take}
use Rattle.spec_rules.specs.Places.{first_wrong}
use Rattle.spec_rules.specs.Written.{written_name}
use Rattle.spec_rules.specs.TypeRules.{is_right_type_name}
use Rattle.description_table.specs.Views.{type_view}
use Rattle.description_rules.proofs.FirstLemmas.{first_from}
use Rattle.description_rules.proofs.LowerLemmas.{lower_name}
use Rattle.description_rules.proofs.type_rules.first_wrong_among.Given as goal

-- those before this one are right, and their names noted
abbrev pub invariant-loop-i : goal.invariant-loop-i
invariant-loop-i l = record {
  first : first_wrong is_right_type_name [] (map type_view l.types) ≡ first_from is_right_type_name type_view l.types l.i;
  noted : l.seen ≡ map (lower_name type_view written_name) (take l.i l.types);
}
