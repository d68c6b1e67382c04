use Rattle.std.proofs.Common.{◌≡◌, [], map, take}
use Rattle.spec_rules.specs.Places.{first_wrong}
use Rattle.spec_rules.specs.TypeRules.{is_right_value}
use Rattle.type_layout.specs.Shapes.{kind_of}
use Rattle.description_table.specs.Views.{value_view}
use Rattle.description_rules.proofs.FirstLemmas.{first_from}
use Rattle.description_rules.proofs.LowerLemmas.{lower_name}
use Rattle.description_rules.proofs.ValueLemmas.{value_name, value_number}
use Rattle.description_rules.proofs.value_rules.first_wrong_behind.Given as goal

-- those before this one are right, and their names and numbers noted
abbrev pub invariant-loop-i : goal.invariant-loop-i
invariant-loop-i l = record {
  first : first_wrong (is_right_value (kind_of l.base)) [] (map value_view l.values) ≡ first_from (is_right_value (kind_of l.base)) value_view l.values l.i;
  named : l.names ≡ map (lower_name value_view value_name) (take l.i l.values);
  numbered : l.numbers ≡ map value_number (take l.i l.values);
}
