use Rattle.std.proofs.Common.{[], ◌∷◌, ◌++◌, get_or, take, sym, ap, ◌∙◌, pos}
use Rattle.std.proofs.lemmas.List.{get_or_default}
use Rattle.spec_rules.specs.TypeRules.{is_right_value}
use Rattle.type_layout.specs.Shapes.{kind_of}
use Rattle.description_table.specs.Views.{value_view}
use Rattle.description_rules.proofs.FirstLemmas.{first_from-start, first_from-right, first_from-wrong, take-more}
use Rattle.description_rules.proofs.LowerLemmas.{noted-lower}
use Rattle.description_rules.proofs.ValueLemmas.{value_name, value_number, is_right_value-noted}
use Rattle.description_rules.proofs.value_rules.first_wrong_behind.Goals as goal

pub loop-i-init : goal.loop-i-init
loop-i-init c = record {
  first = first_from-start (is_right_value (kind_of c.args.base)) value_view c.args.values.now;
  named = c.requires.names;
  numbered = c.requires.numbers;
}

pub returns-then-not-branch : goal.returns-then-not-branch
returns-then-not-branch c =
    let base = kind_of c.args.base in
    let xs = c.args.values.now in
    let i = c.loop-i.i in
    let x = get_or xs i (record { name = record { ref_ptr = (0, 0); now = [] }; number = pos 0 }) in
    let is = get_or_default xs i _ x c.loop-i-test.true in
    sym (first_from-wrong (is_right_value base) value_view xs i x _ c.loop-i-test.true is
    (is_right_value-noted base (take i xs) x c.loop-i.names _ c.loop-i.numbers _ _ c.loop-i.invariant.named
    c.loop-i.invariant.numbered c.in_ok-is_right_value.ensures ∙ c.if-not-branch.true)
    c.loop-i.invariant.first)

pub loop-i-preserved : goal.loop-i-preserved
loop-i-preserved c =
    let base = kind_of c.args.base in
    let xs = c.args.values.now in
    let i = c.loop-i.i in
    let x = get_or xs i (record { name = record { ref_ptr = (0, 0); now = [] }; number = pos 0 }) in
    let is = get_or_default xs i _ x c.loop-i-test.true in
    let next = c.in_ok-is_right_value.ensures in
    record {
      first = first_from-right (is_right_value base) value_view xs i x _ c.loop-i-test.true is
          (is_right_value-noted base (take i xs) x c.loop-i.names _ c.loop-i.numbers _ _ c.loop-i.invariant.named c.loop-i.invariant.numbered next
          ∙ c.if-not-branch.false)
          c.loop-i.invariant.first;
      named = noted-lower value_view value_name xs i x c.loop-i.names _ c.loop-i-test.true is c.loop-i.invariant.named (next.named c.if-not-branch.false);
      numbered = next.numbered c.if-not-branch.false ∙ ap (λ numbers. numbers ++ value_number x ∷ []) c.loop-i.invariant.numbered
          ∙ sym (take-more value_number xs i x c.loop-i-test.true is);
    }
