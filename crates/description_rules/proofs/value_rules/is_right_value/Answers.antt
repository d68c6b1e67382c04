use Rattle.std.proofs.Common.{ℤ, subst, rules, w64}
use Rattle.std.proofs.lemmas.Int.{to_z-of_z}
use Rattle.type_layout.specs.Shapes.{kind_of}
use Rattle.description_table.specs.Views.{value_view}
use Rattle.description_rules.specs.NextNumber.{IsNextNumber}
use Rattle.description_rules.specs.NextValue.{IsNextValue}
use Rattle.description_rules.proofs.StartTurns.{if_ok}
use Rattle.description_rules.proofs.ValueLemmas.{next_value}
use Rattle.description_rules.proofs.value_rules.is_right_value.Goals as goal
use mir.Val.{SFits}

pub returns : goal.returns
returns c =
    let v = value_view c.args.value.now in
    let fits : SFits w64 c.args.value.now.number = search rules in
    if_ok _ (IsNextValue (kind_of c.args.base) v c.args.names.now c.args.numbers.now c.note_lower.new.texts c.note_number.new.seen) c.note_number.result
    (λ right next. next_value (kind_of c.args.base) v c.args.names.now c.note_lower.new.texts
    c.args.numbers.now c.note_number.new.seen c.is_value-right.result c.in_ok-new.new right
    c.is_value-right.ensures c.in_ok-new.ensures
    (subst (λ (n : ℤ). IsNextNumber c.in_ok-new.new c.args.numbers.now c.note_number.new.seen n right) (to_z-of_z w64 c.args.value.now.number fits) next))
    c.note_number.ensures
